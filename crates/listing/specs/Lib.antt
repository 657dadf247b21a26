-- The listing, from the bytes of the texts to its lines, and the call that writes it.
pub mod Listing
pub mod Cases
pub mod Run
pub mod Call
