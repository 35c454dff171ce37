pub mod Avro
pub mod Reading
pub mod Codes
pub mod Samples
