pub mod Window
pub mod Usable
pub mod Parts
