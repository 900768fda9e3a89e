-- The definitions of the book crate. Assumes nothing.
pub mod Limits
pub mod Content
pub mod Sound
pub mod Meant
pub mod Apart
pub mod Grown
pub mod ByNumbers
