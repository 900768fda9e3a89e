-- What the contracts of the lister cite. Assumes nothing.
pub mod Listing
