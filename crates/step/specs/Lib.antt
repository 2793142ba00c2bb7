pub mod Meaning
pub mod IsStep
pub mod LowerGoalFirst
pub mod Promises
pub mod Laws
pub mod Theorems
