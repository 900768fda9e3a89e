-- What the proofs of `lines` share: the cases by bytes (ByBytes), a count and a line as written (Written), pieces of a text (Pieces, Joined), what the loops go by (Lines), the first
-- line that breaks the rules (First), the counts of lines added up (Counts), and of frames that they are short (Sizes) and bytes (Bytes). Assumes nothing.
pub mod ByBytes
pub mod Written
pub mod Pieces
pub mod Joined
pub mod Lines
pub mod First
pub mod Counts
pub mod Sizes
pub mod Bytes
