pub mod Traces
pub mod Events
pub mod Theorem
