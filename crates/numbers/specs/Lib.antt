-- The paper's numbers to check by: the books, the texts and the one table of cases; a book of digits; one of many rules; the number given no more; the numbers by the trait. Assumes nothing.
pub mod Inputs
pub mod Cases
pub mod Never
pub mod Digits
pub mod Many
pub mod Numbered
