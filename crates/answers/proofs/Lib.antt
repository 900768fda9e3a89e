-- The numbers and values written out. Assumes nothing.
pub mod ByNumbers
