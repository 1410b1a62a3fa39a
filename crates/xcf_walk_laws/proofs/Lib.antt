pub mod Depends
pub mod Refusals
pub mod Ensures
pub mod Passes
pub mod Map
