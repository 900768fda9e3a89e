-- The laws of `shown`. Assumes nothing.
pub mod Laws
