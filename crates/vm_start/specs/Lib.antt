pub mod Table
pub mod Asked
pub mod Steps
