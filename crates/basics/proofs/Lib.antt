-- Laws of tests, of lists and of the order by several numbers.
pub mod BoolLaws
pub mod ListLaws
pub mod LexLaws
pub mod BuildLaws
pub mod EdgeLaws
pub mod SaysLaws
