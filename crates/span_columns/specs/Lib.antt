-- Spans in two columns.
pub mod Writing
