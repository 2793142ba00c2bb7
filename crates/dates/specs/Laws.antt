-- The laws of the calendar, by topic: the lengths of months and years, dates and the numbers of their days, the next day. Assumes nothing.
pub mod Months
pub mod Dates
pub mod NextDay
