-- What the contracts of `leaves` cite: Totals, of the record and of a call; Steps, for inner functions only. Assumes nothing.
pub mod Totals
pub mod Steps
