pub mod SameOffers
