pub mod Drawable
pub mod Image
pub mod Answer
pub mod Parts
