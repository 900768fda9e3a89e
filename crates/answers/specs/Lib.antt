-- The answers of a walk and of a tally in the paper's numbers and values. Assumes nothing.
pub mod Walked
pub mod Tallied
pub mod ByNumbers
