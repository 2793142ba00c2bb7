pub mod Limits
pub mod Problem
pub mod Masked
pub mod Proper
