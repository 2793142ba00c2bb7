-- The laws of items, by topic: sums and weights, the functions over weights. Assumes nothing.
pub mod Sums
pub mod Weighing
