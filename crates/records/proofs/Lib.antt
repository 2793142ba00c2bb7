pub mod CheckLaws
pub mod RefusalLaws
pub mod LiteralLaws
pub mod ReadLaws
pub mod RowLaws
