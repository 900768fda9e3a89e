-- What the proofs of `tally` share: laws of what is added (Adding), of walks over frames, stacks and lines (Walks), and of the answer (Answers).
-- Assumes nothing.
pub mod Adding
pub mod Walks
pub mod Answers
