pub mod ClassFiles
