pub mod Lists
pub mod Finding
pub mod Outcomes
pub mod Searching
pub mod Packages
