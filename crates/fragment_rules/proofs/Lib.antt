-- The table's one computed test, and the laws that it stands on.
pub mod Entries
pub mod Table
