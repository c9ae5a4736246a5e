-- Lemmas on what was taken of an input.
pub mod Taking
