-- What is said of leaf totals: Adding is of any tables, Families of the tables of rules and of a book built, Cases of numbers. Assumes nothing.
pub mod Adding
pub mod Families
pub mod Cases
