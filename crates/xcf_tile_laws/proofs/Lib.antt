pub mod Consumed
pub mod Pixels
pub mod Marks
pub mod GoodWhenValid
pub mod TileNumbers
