-- Laws of loops that several proofs cite.
pub mod Filling
pub mod Tables
