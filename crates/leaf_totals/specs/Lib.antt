-- What the contracts of `leaf_totals` cite: Record, of the record; Totalled, of the answers. Assumes nothing.
pub mod Record
pub mod Totalled
