pub mod InOrder
pub mod Marked
pub mod ReadLoops
pub mod TableCodecs
pub mod Building
pub mod Ascending
pub mod Starts
