pub mod Calendar
pub mod Windows
pub mod Laws
pub mod Days
