-- What documents 01 and 02 mean, in the order of document 01: definitions only. Read them in this order, next to the documents.
pub mod Words
pub mod Derivation
pub mod Cost
pub mod Grammar
pub mod Buffers
pub mod File
pub mod Writing
pub mod Desk
pub mod Moves
pub mod Run
pub mod Pace
pub mod Listing
pub mod Marks
pub mod MarkLines
pub mod Refusals
-- What follows from them. Nothing above uses anything of these.
pub mod Theory
pub mod Model
pub mod Cases
