-- What rests on the definitions that the must-fail edits turn.
pub mod Theory
pub mod Model
pub mod Cases
