-- What the setup desk answers, in the words of the crate grammar.
pub mod Answer
pub mod Unique
