pub mod RowsLoop
pub mod Drawables
pub mod RowsLeft
pub mod RowsMeasured
pub mod RowsStored
