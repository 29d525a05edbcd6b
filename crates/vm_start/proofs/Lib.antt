pub mod Numbers
pub mod Bounds
pub mod Searches
pub mod Tellings
pub mod StepTests
pub mod Leading
pub mod Lines
pub mod LinkedClasses
