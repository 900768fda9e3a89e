-- The paper's numbers to check by, proved: what the books' bytes mean, laws of builds and of walks that are written out, and the one theorem; a book
-- of digits; one of many rules; the number given no more; the numbers by the trait. Assumes nothing.
pub mod Books
pub mod Builds
pub mod Walks
pub mod Tallies
pub mod Cases
pub mod Never
pub mod Digits
pub mod Many
pub mod Numbered
