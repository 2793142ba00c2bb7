-- The laws of witnesses for one goal: the question and the models kept, and the bound of a part from them. Assumes nothing.
pub mod Questions
pub mod Bounds
