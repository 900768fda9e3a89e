-- What the proofs of `walk` and of the crates above it share. Assumes nothing.
pub mod Laws
pub mod Rows
pub mod Room
pub mod Stops
