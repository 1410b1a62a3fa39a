pub mod Segment
pub mod Parts
