-- What a text is made of: lines, fields, numbers, names, and what a table of lines gives.
pub mod Cut
pub mod Number
pub mod Table
pub mod Names
pub mod Scan
