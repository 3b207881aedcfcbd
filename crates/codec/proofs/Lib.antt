mod Sums
pub mod Distance
mod WordLaws
mod Encoding
pub mod DecodingLaws
mod PointsShown
mod FinderLaws
mod CheckLaws
pub mod CodeLaws
mod RowLaws
mod LineCheck
mod PlaceLaws
mod TestLaws
mod StrengthLaws
