pub mod Marks
pub mod Told
pub mod State
