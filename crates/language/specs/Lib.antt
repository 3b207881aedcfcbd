pub mod Parts
pub mod Spelling
pub mod Commands
pub mod Rows
