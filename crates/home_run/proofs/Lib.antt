pub mod Programs
pub mod Starting
pub mod Ending
