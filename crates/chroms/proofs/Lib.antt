-- Laws of chromosome lines and of the check of a list.
pub mod Entries
pub mod Checks
