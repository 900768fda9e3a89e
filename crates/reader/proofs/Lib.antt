-- The laws of the reader crate. Assumes nothing.
pub mod Steps
pub mod Readings
pub mod Accepted
pub mod Numbers
pub mod SmallBooks
