pub mod Bands
pub mod Compare
pub mod Bytes
pub mod Build
pub mod Exists
pub mod Order
pub mod Pigeon
pub mod Rows
