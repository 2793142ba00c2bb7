-- Laws of fillings and rules, and the steps of the search. Assumes nothing.
pub mod Fillings
pub mod Rules
pub mod Assigns
pub mod Implied
pub mod Searches
