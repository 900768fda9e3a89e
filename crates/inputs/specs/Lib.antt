-- What the contracts of `inputs` cite. Assumes nothing.
pub mod Inputs
