-- The laws of `output`. Assumes nothing.
pub mod Laws
pub mod Room
pub mod Examples
