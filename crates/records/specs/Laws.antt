-- The laws of records, by topic: lists that are kept in rows. Assumes nothing.
pub mod Rows
