-- What a call for many bases says, and what its parts promise one another.
pub mod Many
pub mod Chain
pub mod Alike
pub mod Inner
