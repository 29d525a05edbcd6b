pub mod Mapping
pub mod Fronts
pub mod Parts
