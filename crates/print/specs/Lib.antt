pub mod Printing
pub mod Laws
