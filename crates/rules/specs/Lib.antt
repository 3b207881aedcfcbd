pub mod Places
pub mod Answers
pub mod Rules
pub mod History
pub mod Theorem
pub mod Boards
pub mod Work
