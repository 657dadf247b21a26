-- Laws of a run inside a listing.
pub mod NameLaws
pub mod Beginning
pub mod FineLaws
