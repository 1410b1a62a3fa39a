pub mod DrawablesLoop
pub mod Decided
