-- What the contracts of `walk` cite. Assumes nothing.
pub mod Walk
