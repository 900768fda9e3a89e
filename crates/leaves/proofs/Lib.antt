pub mod EachPlace
pub mod Counting
pub mod Records
pub mod Order
pub mod Answers
