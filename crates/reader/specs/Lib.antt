-- The definitions of the reader crate. Assumes nothing.
pub mod Handed
pub mod Numbers
pub mod Leaves
