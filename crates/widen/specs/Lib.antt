-- What the promise of the widening tool says, and the same by numbers (Lengths). Assumes nothing.
pub mod Widen
pub mod Lengths
