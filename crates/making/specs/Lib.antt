-- What the program makes of a text.
pub mod Answer
pub mod Making
pub mod Unique
