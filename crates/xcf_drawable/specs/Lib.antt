pub mod Drawable
pub mod Parts
pub mod Drawing
