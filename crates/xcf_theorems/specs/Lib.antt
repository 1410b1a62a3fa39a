pub mod Examples
pub mod ExampleFile
pub mod MapExample
pub mod Version11Example
pub mod DamagedExample
pub mod KeptExample
pub mod Statements
