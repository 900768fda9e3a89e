-- The laws of the format crate. Assumes nothing.
pub mod Answers
pub mod Symbols
pub mod Turns
pub mod Members
pub mod Judged
pub mod Fields
pub mod Rests
pub mod Kept
pub mod Sounds
pub mod Sizes
pub mod Numbers
pub mod Which
pub mod Written
pub mod Largest
