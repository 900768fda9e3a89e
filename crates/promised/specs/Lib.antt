-- What a build promises (Promise), and what is proved of that promise (Exact, Buffers, AsBefore). Assumes nothing.
pub mod Promise
pub mod Exact
pub mod Buffers
pub mod AsBefore
