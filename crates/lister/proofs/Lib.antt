-- The laws of the lister. Assumes nothing.
pub mod Laws
