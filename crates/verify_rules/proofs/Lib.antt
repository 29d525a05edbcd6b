pub mod Tops
pub mod Turning
pub mod Units
