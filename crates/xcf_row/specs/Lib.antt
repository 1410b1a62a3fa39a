pub mod Row
