pub mod PieceLaws
pub mod RunLaws
pub mod FirstLaws
mod FlatLaws
mod WordLaws
