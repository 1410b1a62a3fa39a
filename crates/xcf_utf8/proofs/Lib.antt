pub mod Grammar
pub mod Scalars
