-- What the arrays of a run and the lent columns stand for.
pub mod View
pub mod Move
pub mod Load
