pub mod RunLaws
pub mod Explains
