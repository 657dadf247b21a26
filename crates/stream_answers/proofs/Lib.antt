-- One stream's answer to a base never meets 13.
pub mod Fits
