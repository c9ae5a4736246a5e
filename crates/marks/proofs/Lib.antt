-- What the proofs of the marks share.
pub mod Copying
pub mod Sizing
pub mod Walking
pub mod Putting
pub mod Answering
