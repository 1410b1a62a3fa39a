pub mod Header
pub mod Hierarchy
pub mod Drawable
pub mod Image
pub mod Parts
