pub mod InForceLaws
pub mod BookLaws
