-- That a base is answered as the rules say.
pub mod Giving
pub mod Stepping
