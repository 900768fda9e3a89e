-- What the contracts of `tally` cite: Tally; Passes, for inner functions only. Assumes nothing.
pub mod Tally
pub mod Passes
