-- What the contracts of `spans` cite.
pub mod Spans
pub mod Turn
pub mod Fitting
pub mod Records
