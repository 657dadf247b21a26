-- What the offer's definition comes to.
pub mod OfferLaws
