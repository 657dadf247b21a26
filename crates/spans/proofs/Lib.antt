-- The laws that the proofs above cite.
pub mod Columns
