pub mod Below
pub mod Ranks
pub mod Laws
pub mod Tables
pub mod Wholes
pub mod Cases
pub mod Demands
pub mod Examples
