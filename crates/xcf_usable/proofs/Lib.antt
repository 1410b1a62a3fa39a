pub mod Counts
pub mod Zeros
pub mod ZeroRow
pub mod BadLoop
pub mod AllUsable
pub mod Each
pub mod RowFacts
pub mod Order
