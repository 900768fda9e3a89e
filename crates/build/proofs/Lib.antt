-- The laws of the builder. Words holds those on a set made number by number, and word by word. Assumes nothing.
pub mod Laws
pub mod Words
pub mod Steps
pub mod InChains
pub mod Sanity
pub mod Zeroed
pub mod Parts
pub mod Theory
pub mod Promised
