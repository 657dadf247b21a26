-- The offer from the first that waits and the least head.
pub mod Offers
