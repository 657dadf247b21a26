-- Calls of a run, one after the other.
pub mod Calls
