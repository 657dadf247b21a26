-- The rule of a pair of choices, and the table of them all.
pub mod Rules
pub mod Table
