-- The laws of the summer. Assumes nothing.
pub mod Laws
