-- Laws of the definitions in specs/, which the proofs of the functions here and in the listing cite.
pub mod Decimal
pub mod Laying
pub mod Spelling
pub mod Fields
pub mod Putting
pub mod LaidLaws
