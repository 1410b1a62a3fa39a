pub mod Tile
pub mod Answer
pub mod Compression
pub mod Parts
