pub mod Content
pub mod Maps
pub mod Insertions
