pub mod Reading
pub mod Taking
pub mod Rounds
pub mod Walks
pub mod Steps
pub mod Answered
