-- The laws of `program`. Assumes nothing.
pub mod Laws
