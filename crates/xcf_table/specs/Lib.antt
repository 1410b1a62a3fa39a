pub mod Canvas
pub mod Table
pub mod Name
