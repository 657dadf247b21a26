-- What a call says, and what its parts promise one another.
pub mod Settle
pub mod Give
pub mod Step
