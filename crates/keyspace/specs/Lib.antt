pub mod Positions
pub mod Slots
pub mod Spots
pub mod Lists
pub mod Numbers
pub mod Names
pub mod Fields
