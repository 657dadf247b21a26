-- The texts of a listing: how they part, what is judged of them before the run, and what reading them gives.
pub mod Texts
pub mod Parted
pub mod Read
