pub mod Words
pub mod HomeWords
pub mod Grammar
pub mod Requests
pub mod ClassList
