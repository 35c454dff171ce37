pub mod Reasons
pub mod Decimals
pub mod Naming
