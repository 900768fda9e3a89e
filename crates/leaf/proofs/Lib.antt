pub mod Frames
pub mod InBoth
pub mod Walks
pub mod Lines
pub mod Place
pub mod Stacks
