pub mod Binding
pub mod Texts
pub mod Mutf8
pub mod Names
pub mod Types
pub mod Arrays
pub mod Paths
