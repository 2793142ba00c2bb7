-- Laws of the order of fillings, of the first filling, and of the search for the first model. Assumes nothing.
pub mod Order
pub mod FirstFilling
pub mod Searches
