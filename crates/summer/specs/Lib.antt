-- What the contracts of the summer cite. Assumes nothing.
pub mod Summing
