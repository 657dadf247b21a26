-- A run inside a listing, and the memory of its texts.
pub mod Run
pub mod Memory
