pub mod Bytes
pub mod Codecs
pub mod Loops
