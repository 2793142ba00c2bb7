pub mod Signed
pub mod Steps
pub mod LowerGoalFirst
pub mod Theorems
