pub mod Pairs
pub mod Growing
pub mod Inserting
pub mod Orders
pub mod Laws
pub mod Lookups
