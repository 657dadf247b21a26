-- Laws of names that were seen, of the fields of a row, and of lines that were read.
pub mod Seeing
pub mod Fields
pub mod Filled
