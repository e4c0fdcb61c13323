pub mod Program
pub mod Scripted
pub mod Laws
