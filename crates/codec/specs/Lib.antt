pub mod Word
pub mod Finder
pub mod Check
pub mod Code
pub mod Laws
pub mod Packed
pub mod Shown
pub mod Points
