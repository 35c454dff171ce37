pub mod Puts
pub mod Ones
pub mod Takes
pub mod Back
