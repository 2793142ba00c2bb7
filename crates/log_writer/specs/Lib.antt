pub mod Meaning
pub mod Demand3
pub mod Promises
pub mod Laws
