pub mod Lent
pub mod Replies
pub mod Verdicts
pub mod Inner
