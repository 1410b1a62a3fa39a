pub mod Tile
pub mod Answer
pub mod Parts
pub mod Streams
