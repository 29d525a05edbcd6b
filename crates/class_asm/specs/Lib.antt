pub mod Labels
pub mod Needs
pub mod Code
pub mod Frames
pub mod Drafts
pub mod Assembly
pub mod Keys
pub mod Laws
