pub mod Meaning
pub mod Demand2
pub mod Algorithm2
pub mod SameFillings
pub mod Promises
pub mod Laws
