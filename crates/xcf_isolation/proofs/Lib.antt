pub mod SameBytes
pub mod SameWindows
pub mod ConsumedBytes
pub mod Given
pub mod Kept
pub mod Isolated
