pub mod Known
pub mod Laws
pub mod Needs
pub mod Outcome
