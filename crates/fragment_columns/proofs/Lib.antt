-- Laws of the columns that a layout is written to.
pub mod Parts
