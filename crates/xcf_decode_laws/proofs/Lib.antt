pub mod Counted
pub mod Refused
pub mod RowDecoded
pub mod TilesShown
pub mod TilesGood
