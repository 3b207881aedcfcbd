pub mod Replies
pub mod Words
pub mod Banks
pub mod Lent
