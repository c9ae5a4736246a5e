pub mod Beginning
pub mod Summing
pub mod Lowering
pub mod Listing
