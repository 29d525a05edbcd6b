pub mod Fronts
pub mod Regions
pub mod Archives
pub mod Stages
