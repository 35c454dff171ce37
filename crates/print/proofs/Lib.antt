pub mod Adding
pub mod Back
