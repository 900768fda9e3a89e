-- The definitions of `output`. Assumes nothing.
pub mod Printed
pub mod PutsNext
