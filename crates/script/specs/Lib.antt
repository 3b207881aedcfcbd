pub mod Piles
pub mod Machines
pub mod Scripts
