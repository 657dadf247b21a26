-- What a run stands for, what a base comes to, and what a start says.
pub mod Marks
pub mod View
pub mod Comes
pub mod Start
