pub mod Property
pub mod List
