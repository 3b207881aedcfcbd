pub mod PartLaws
mod NumberLaws
