-- What is said of the five buffers that are lent, and the same by numbers (Lengths). Assumes nothing.
pub mod Lent
pub mod Lengths
