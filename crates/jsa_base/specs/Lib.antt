pub mod Reading
pub mod Spelling
pub mod Codec
pub mod LowFirst
