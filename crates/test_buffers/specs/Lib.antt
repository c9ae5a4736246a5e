pub mod Digest
pub mod Input
