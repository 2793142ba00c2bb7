mod DecimalLaws
pub mod FrontLaws
mod LiteralLaws
mod LineLaws
mod FieldLaws
mod ParseLaws
mod ReadLaws
mod LogLaws
mod WalkLaws
pub mod PrintLaws
pub mod SameScreens
