-- Laws of the definitions in specs/, which the proofs of the functions here and in the readers cite.
pub mod Both
pub mod Scan
pub mod Numbers
pub mod Naming
pub mod Lines
pub mod Tables
