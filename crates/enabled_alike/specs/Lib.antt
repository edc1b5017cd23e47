pub mod Offered
pub mod OfferLaws
