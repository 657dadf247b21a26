-- The laws that the proofs of the functions cite, and what follows of the promise.
pub mod Answers
pub mod Most
