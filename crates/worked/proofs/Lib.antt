-- The computed test of a book that is written out (Checked), and what it says of X, Y and Z (Books). Assumes nothing.
pub mod Checked
pub mod Books
