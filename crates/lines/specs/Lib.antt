-- What a line of the listing is, and what writing one, or several, to a lent buffer says.
pub mod Lines
pub mod Put
pub mod Laid
pub mod Example
