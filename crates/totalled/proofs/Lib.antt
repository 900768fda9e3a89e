-- Of any tables: a line's leaf (Leaves), its walk (Walked), the first that fails (Fails), the record place by place (Records), the theorems (Adding). Of the
-- tables of rules: rules that fit a whole leaf (Whole), the theorems (Families). Of the cases: families and places by computing (Computed), shares from the
-- demands (Rounded, Shared), the book's rules (Four), tables of one row (OneRow), the table of cases (Cases). Assumes nothing.
pub mod Leaves
pub mod Walked
pub mod Fails
pub mod Records
pub mod Adding
pub mod Whole
pub mod Families
pub mod Computed
pub mod Rounded
pub mod Shared
pub mod Four
pub mod OneRow
pub mod Cases
