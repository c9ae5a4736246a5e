-- What the proofs of several functions cite.
pub mod Passing
pub mod Looking
pub mod Standing
pub mod Watching
pub mod Refusing
