-- What the contracts of `lines` cite (Lines), lines and counts in plain words (Written), what is said of a profile's lines (Profile), and all of it by bytes
-- written out (ByBytes). Assumes nothing.
pub mod Lines
pub mod Written
pub mod Profile
pub mod ByBytes
