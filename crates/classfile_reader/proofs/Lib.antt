pub mod PartLoops
pub mod Kept
pub mod ClassAnswered
