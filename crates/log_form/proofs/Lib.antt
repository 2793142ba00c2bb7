pub mod BeginsLaws
pub mod LeftLaws
pub mod ListLaws
pub mod RecordLaws
pub mod StoreLaws
