pub mod Pointers
pub mod Lists
