-- Laws of a partial filling, of a pass over the rules and of resolution. Assumes nothing.
pub mod Assigns
pub mod Looks
pub mod Scans
pub mod Places
pub mod Resolution
