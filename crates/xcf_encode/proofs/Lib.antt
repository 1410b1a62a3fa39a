pub mod Answers
pub mod Parts
pub mod Planes
pub mod StreamsBound
pub mod TileBound
