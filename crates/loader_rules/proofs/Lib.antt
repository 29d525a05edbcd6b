pub mod Searches
pub mod Turns
pub mod Tails
pub mod PackageEnds
