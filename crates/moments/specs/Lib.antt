-- The two moments of a call by name. Assumes nothing.
pub mod Moments
