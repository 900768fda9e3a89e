-- That the promise of a build determines everything (Exact), what it leaves in the buffers (Buffers), and what it says of books whose pictures lie apart (AsBefore). Assumes nothing.
pub mod Exact
pub mod Buffers
pub mod AsBefore
