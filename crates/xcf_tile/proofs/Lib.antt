pub mod Sizes
pub mod Lengths
pub mod Interleaved
pub mod Whole
