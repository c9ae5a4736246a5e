-- What the functions of print_marks answer and leave, in the words of the crate grammar; and what follows from `MarksPrinted`.
--     Told       the marks that the words of a token buffer tell
--     Unique     an input has one list of lines
--     Enough     its first 30,216 bytes decide it
--     Leads      the answer of the repaired log leads to it
--     Sizes      a buffer of 1,441,846 bytes holds any of them
--     Shown      what the entry promises: the lines stand in front of the buffer
pub mod Told
pub mod Unique
pub mod Enough
pub mod Leads
pub mod Sizes
pub mod Shown
