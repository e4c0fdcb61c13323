pub mod Outcome
pub mod Slots
pub mod Meaning
pub mod Sound
