-- What the writer of grammar files answers, in the words of the crate grammar.
pub mod Unique
