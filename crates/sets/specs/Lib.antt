pub mod Sets
pub mod Iter
pub mod Laws
