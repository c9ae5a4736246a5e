-- What the repaired log in marks alone answers and leaves.
--     Theorems     two answers of the functions that users call are equal
--     Answer       what the answers mean, and what stands for a mark
--     Restoring    the result, as the walk over the edit records makes it
--     Restored     that it is the marks of the moves
--     Marking      the answers, put together
pub mod Theorems
pub mod Answer
pub mod Restoring
pub mod Restored
pub mod Marking
