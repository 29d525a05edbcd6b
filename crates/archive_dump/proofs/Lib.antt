pub mod Dumps
pub mod LongTexts
pub mod Room
