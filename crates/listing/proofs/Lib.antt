-- Laws of the listing.
pub mod Telling
pub mod Listed
pub mod Written
