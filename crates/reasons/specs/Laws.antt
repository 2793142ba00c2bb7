-- The laws of the search for one goal: a look at a part, where it is split, and its search. Assumes nothing.
pub mod Looks
pub mod Splits
pub mod Explores
