-- The definitions of `shown`. Assumes nothing.
pub mod Shown
