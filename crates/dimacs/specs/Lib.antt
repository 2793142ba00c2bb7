pub mod Text
pub mod Import
pub mod Promises
pub mod Ascii
pub mod Rows
