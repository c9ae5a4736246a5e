-- Document 01's twelve cases: one list, one theorem.
pub mod Compared
pub mod Twelve
pub mod Bound
pub mod Hundredths
