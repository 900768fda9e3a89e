-- The definitions of the format crate. Assumes nothing.
pub mod Answers
pub mod Format
pub mod Lawful
pub mod Which
pub mod Largest
