pub mod Opcodes
pub mod Instruction
pub mod Spelling
pub mod Places
pub mod Reading
pub mod Unsupported
pub mod Switches
