-- What others cite of `lent`: a row's words stored (Storing), when rows are lent (HasRows); and rows lent by numbers (Lengths).
-- Assumes nothing.
pub mod Storing
pub mod HasRows
pub mod Lengths
