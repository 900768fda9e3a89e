-- What the contracts of `one_byte` cite. Assumes nothing.
pub mod Move
