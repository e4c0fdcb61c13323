pub mod State
pub mod Calls
