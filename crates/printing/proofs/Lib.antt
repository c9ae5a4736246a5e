-- Lemmas on an input that is kept.
pub mod Keeping
