-- What the contracts of `program` cite. Assumes nothing.
pub mod Program
