pub mod Below
pub mod Ranks
pub mod Shares
pub mod Demands
