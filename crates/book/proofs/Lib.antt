-- The laws of the book crate. Assumes nothing.
pub mod Cases
pub mod Tables
pub mod Pictures
pub mod Records
pub mod Stores
pub mod Held
pub mod Meant
pub mod Apart
pub mod ByNumbers
