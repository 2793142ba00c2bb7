-- The laws of the step, by topic: costs and weights, the order, what is known and what the given facts
-- force, the list of candidates, one goal, all goals, the step, that there is one, and that it depends on the fillings of the choices. Assumes nothing.
pub mod Costs
pub mod Order
pub mod Known
pub mod Given
pub mod Candidates
pub mod Goals
pub mod AllGoals
pub mod TheStep
pub mod Unique
pub mod SameFillings
