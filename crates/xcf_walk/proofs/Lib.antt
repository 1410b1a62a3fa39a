pub mod Walks
pub mod Straight
pub mod Advances
pub mod Within
pub mod Steps
pub mod Loops
pub mod PointersLoop
pub mod Tiles
