mod SeenLaws
mod CastLaws
pub mod Told
mod RowLaws
mod TableLaws
