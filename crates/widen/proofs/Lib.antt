-- The law of the widening tool's answer, and widening by numbers (Lengths). Assumes nothing.
pub mod Laws
pub mod Lengths
