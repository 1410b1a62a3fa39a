pub mod Walk
pub mod Fields
pub mod Property
pub mod Pointers
pub mod Cursor
pub mod Parts
