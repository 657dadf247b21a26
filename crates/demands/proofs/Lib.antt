-- What every sequence of calls comes to.
pub mod RowsLaws
pub mod KeptLaws
pub mod RangedLaws
pub mod Shown
pub mod Chained
pub mod RunAnswers
pub mod Demanded
pub mod OneResult
pub mod ComesBack
