-- What a row is, and what the functions behind the reader give.
pub mod Row
pub mod Read
