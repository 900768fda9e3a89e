-- The books X and Y of the paper and Z of ours, worked out by hand. Assumes nothing.
pub mod Books
