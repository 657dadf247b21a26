-- What the parts promise: the refusals and their numbers, the promise of the public call, and how much to lend.
pub mod Valid
pub mod Promise
pub mod Most
