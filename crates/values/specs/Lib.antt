pub mod Value
pub mod Types
pub mod Order
pub mod Few
