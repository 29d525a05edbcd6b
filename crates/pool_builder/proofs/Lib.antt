pub mod Answered
pub mod Built
pub mod Grown
pub mod Keeping
pub mod Places
pub mod Positions
