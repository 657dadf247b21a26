-- When a base is let in: what 1 asks, the answer, and the facts behind it.
pub mod Right
pub mod Gates
pub mod Fits
