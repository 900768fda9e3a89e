-- The theorems are in OneWord, Built and Walked, and sets_kept in Laws. Assumes nothing.
pub mod Laws
pub mod OneWord
pub mod Built
pub mod Walked
