pub mod Faults
pub mod Scattering
pub mod StreamLaws
pub mod StreamLoop
pub mod StreamsLoop
