pub mod Lending
pub mod Laws
pub mod Indexed
pub mod ToldLaws
