-- What the theorems of walks over tables say: Looks counts moves, Demands is of the tables of rules, Whole of a book built. Assumes nothing.
pub mod Looks
pub mod Demands
pub mod Whole
