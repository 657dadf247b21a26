-- Laws that the functions' proofs cite.
pub mod Writing
pub mod Replying
