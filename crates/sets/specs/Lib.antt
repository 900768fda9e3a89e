pub mod Sets
pub mod Table
pub mod Sums
pub mod Places
pub mod ByNumbers
