pub mod Format
pub mod Restarts
pub mod Promises
pub mod Laws
