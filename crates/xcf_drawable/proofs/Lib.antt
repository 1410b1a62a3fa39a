pub mod TileEncoding
pub mod EncodingBound
pub mod TilesMeasured
pub mod DrawableLength
pub mod TilesStored
pub mod TilesTogether
pub mod LevelPut
pub mod DrawablePut
