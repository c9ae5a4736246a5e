-- Document 01's twelve cases: one list, one theorem.
pub mod Case
pub mod Cases
