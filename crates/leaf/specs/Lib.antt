-- What the contracts of `leaf` cite. Assumes nothing.
pub mod Leaf
