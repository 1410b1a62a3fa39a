pub mod Lists
pub mod StructureLength
pub mod Names
pub mod PartsStored
