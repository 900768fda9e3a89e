-- What is said of the members of a set passed one by one. Assumes nothing.
pub mod Passing
