pub mod Seen
pub mod Calls
pub mod Told
pub mod Rows
pub mod Promises
