mod Turned
mod Slots
mod Kept
mod Laws
