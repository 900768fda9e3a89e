-- What is said of a tally: its answer and its sums, in words of the walks over frames, of the rules, and from a book's bytes. Assumes nothing.
pub mod Totals
