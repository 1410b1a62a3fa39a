pub mod Marked
pub mod TilesLoop
pub mod Usable
pub mod Reasons
pub mod Answered
