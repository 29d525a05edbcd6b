pub mod ClassAnswers
pub mod PartAnswers
