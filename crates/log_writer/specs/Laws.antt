-- The laws of the log, by topic: lists of literals and what they cost, what a step adds, demand 3 of one step and of the whole log, two problems with the same
-- fillings of the choices.
-- Assumes nothing.
pub mod Lists
pub mod Costs
pub mod Growth
pub mod OneStep
pub mod Explains
pub mod SameFillings
