-- An executable model of the definitions, proved to give what they say where it answers: slow and plain. It serves the
-- twelve cases.
pub mod Tests
pub mod Saturate
pub mod Ruled
pub mod Sets
pub mod Firsts
pub mod Follows
pub mod Costs
pub mod Prices
pub mod Decided
pub mod Reflects
pub mod Shape
pub mod Wording
pub mod Predicts
pub mod Judge
pub mod Verdicts
pub mod Words
