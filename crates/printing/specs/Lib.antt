pub mod Text
pub mod Printed
pub mod SameScreens
pub mod Rows
pub mod Fields
pub mod Promises
