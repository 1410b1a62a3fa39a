pub mod Puts
pub mod Rows
pub mod Tables
