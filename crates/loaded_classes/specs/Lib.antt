pub mod Slots
pub mod Table
pub mod Held
pub mod Bases
pub mod Pushing
