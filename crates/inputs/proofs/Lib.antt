-- Laws of the texts of a listing.
pub mod Columns
pub mod Parting
pub mod Faults
pub mod Naming
pub mod Filling
pub mod Streaming
pub mod Reading
