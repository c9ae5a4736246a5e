-- What rests on the definition that a must-fail edit turns.
pub mod Hits
pub mod Correcting
