pub mod ReadBack
pub mod TileReadBack
pub mod EncoderNumbers
