pub mod File
pub mod Answer
pub mod Parts
pub mod Result
