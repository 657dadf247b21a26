-- What an accepted base comes to.
pub mod Pulls
