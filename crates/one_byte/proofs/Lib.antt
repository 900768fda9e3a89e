-- What the proofs of `one_byte` and of the crates above it share. Assumes nothing.
pub mod Laws
