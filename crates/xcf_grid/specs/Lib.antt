pub mod Grid
pub mod Pixels
pub mod Parts
pub mod Drawn
