pub mod Every
pub mod Xor
pub mod FieldLaws
