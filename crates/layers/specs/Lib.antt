pub mod Places
pub mod Faults
pub mod Lines
pub mod Tables
pub mod Exact
