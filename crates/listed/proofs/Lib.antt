-- The theorems are in Demands and Whole, and few-reports in Few. Assumes nothing.
pub mod Longest
pub mod Moves
pub mod Few
pub mod Follow
pub mod Demands
pub mod Whole
