-- Lemmas on a text that is gone through.
pub mod Going
