-- That bases given one after the other are each given as by the call for one base.
pub mod Parts
pub mod Passing
pub mod Whole
pub mod Chains
pub mod Alikes
