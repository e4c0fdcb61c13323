mod Steps
pub mod Collect
