-- What the proofs of the setup desk share.
pub mod Listing
