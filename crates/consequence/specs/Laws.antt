-- The laws of the consequence, by topic: forcing as a test and for every filling, the masks of the code, a problem's models and consequence, one
-- round and all rounds of Algorithm 2, that its bound is reached. Those of two theories with the same fillings of the choices: proofs/SameFillings.
pub mod Forcing
pub mod Masks
pub mod Problems
pub mod Common
pub mod Algorithm2
pub mod MostModels
