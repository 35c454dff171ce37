pub mod Digits
pub mod Quotes
