pub mod Pairs
pub mod Leases
pub mod Refusals
pub mod Cleared
pub mod Tried
