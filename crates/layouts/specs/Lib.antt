-- The fragments of a pair, what a rule's words mean, the layout of a rule, the columns that hold it, and the answer.
pub mod Fragments
pub mod Given
pub mod Layout
pub mod Columns
pub mod Judged
pub mod Numbers
pub mod Cases
