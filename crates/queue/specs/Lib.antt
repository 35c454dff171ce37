pub mod Sampled
pub mod Fronts
pub mod Queues
