pub mod Literal
pub mod Truth
pub mod WithLiteral
pub mod LiteralSets
pub mod Laws
