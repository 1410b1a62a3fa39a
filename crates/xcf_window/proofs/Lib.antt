pub mod Ranges
pub mod TilePointers
pub mod Cuts
pub mod OneTile
