-- Laws of spans that are written to two columns.
pub mod Writing
