pub mod RowsLoop
pub mod ImageLength
pub mod ImageParts
pub mod Pointers
