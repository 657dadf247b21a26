-- What a chromosome list is, and when it is refused.
pub mod Entry
pub mod Check
