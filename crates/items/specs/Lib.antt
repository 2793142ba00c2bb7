pub mod Weights
pub mod Cheapest
pub mod Witnesses
pub mod Bounds
pub mod Promises
pub mod Laws
