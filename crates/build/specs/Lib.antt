-- What the contracts of inner functions say: Sets and Course describe the code. Assumes nothing.
pub mod Sets
pub mod Course
