-- The laws of sets as masks, by topic, over masks of any number of bits: digits and bounds, the least element, inclusion and disjointness, the
-- code's spellings, counts, lists of elements. Assumes nothing.
pub mod Bits
pub mod Least
pub mod Subset
pub mod Code
pub mod Count
pub mod Members
