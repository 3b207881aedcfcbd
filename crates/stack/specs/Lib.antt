pub mod Memory
pub mod Pieces
pub mod Refusals
pub mod Flat
pub mod Words
pub mod Firsts
pub mod Memories
