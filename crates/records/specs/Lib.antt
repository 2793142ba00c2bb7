pub mod Limits
pub mod Numbers
pub mod Format
pub mod Refusals
pub mod Promises
pub mod Rows
pub mod Laws
