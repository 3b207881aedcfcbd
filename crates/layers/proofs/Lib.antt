pub mod FaultLaws
mod LineLaws
pub mod BufferLaws
