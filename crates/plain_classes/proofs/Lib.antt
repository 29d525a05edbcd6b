pub mod Loop
pub mod Distinct
pub mod Sizes
pub mod Lists
pub mod Archives
pub mod Named
