pub mod Put
pub mod Word
pub mod Pointer
pub mod Width
pub mod Rising
pub mod Parts
pub mod Output
