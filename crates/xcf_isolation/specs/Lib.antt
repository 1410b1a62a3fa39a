pub mod Kept
pub mod Isolation
