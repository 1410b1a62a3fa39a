pub mod Steps
pub mod Cases
pub mod Products
pub mod Tails
pub mod FlatMaps
pub mod Reasons
