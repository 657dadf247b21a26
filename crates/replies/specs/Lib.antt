-- The lines of one base, and the call that gives a base to a run and writes them.
pub mod Lines
pub mod List
pub mod Source
