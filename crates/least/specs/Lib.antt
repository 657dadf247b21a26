-- The heads as fours, and the least of them.
pub mod Fours
pub mod Least
