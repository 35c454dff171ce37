pub mod Cuts
pub mod Laid
pub mod Listing
pub mod Seeks
