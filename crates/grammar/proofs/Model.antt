-- An executable model of the definitions, proved to give what they say where it answers: slow and plain. It serves the
-- twelve cases.
pub mod Search
pub mod Choose
pub mod Runs
pub mod Parses
pub mod Cycles
