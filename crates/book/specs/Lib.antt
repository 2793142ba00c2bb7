pub mod Answer
pub mod Orders
pub mod Readings
