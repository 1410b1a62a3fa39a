pub mod RowsUsed
pub mod Refusals
pub mod FileLaws
pub mod Accepted
pub mod FileFits
pub mod Reasons
