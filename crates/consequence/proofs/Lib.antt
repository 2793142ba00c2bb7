mod DenyLaws
mod NarrowLaws
pub mod SameFillings
