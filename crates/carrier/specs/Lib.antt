pub mod Lists
pub mod Items
pub mod Meaning
pub mod Steps
pub mod Prefixes
