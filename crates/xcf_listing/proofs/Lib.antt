pub mod Marked
pub mod RowLines
pub mod Listed
