-- One base as many.
pub mod Single
