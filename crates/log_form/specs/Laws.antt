-- The laws of the form, by topic: bytes read as parts of a log, a log written and read back, the list of a set of literals,
-- the masks of a list.
-- Assumes nothing.
pub mod Parsing
pub mod Reads
pub mod Lists
pub mod Masks
pub mod Restarts
