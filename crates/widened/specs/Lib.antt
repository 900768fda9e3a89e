-- OneWord is the old layout and what widening makes of it; Built and Walked are of builds and walks. Assumes nothing.
pub mod OneWord
pub mod Built
pub mod Walked
