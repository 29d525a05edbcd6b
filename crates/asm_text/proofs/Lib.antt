mod Pieces
mod Fronts
mod Numerals
mod LineSteps
mod Each
mod Names
mod TokenLaws
mod PathWords
