-- An answer in numbers, and what the calls for hosts say.
pub mod Told
pub mod Calls
pub mod Hosted
pub mod Tally
