-- What the reader of grammar files answers, in the words of the crate grammar, and laws about them.
pub mod Answer
pub mod Unique
