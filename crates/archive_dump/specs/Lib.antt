pub mod Dumping
pub mod Room
