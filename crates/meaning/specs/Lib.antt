pub mod Rules
pub mod Standing
pub mod Falls
pub mod Tables
pub mod Step
pub mod Occurrences
