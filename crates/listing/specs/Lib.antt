-- What the functions of the printed listing answer and leave, in the words of the crate grammar; and what follows from `Printed`.
--     Unique     an input has one listing
--     Enough     its first 30,216 bytes decide it, and the first 4,097 tokens do
--     Leads      the answers of reader and report lead to it
--     Sizes      a buffer of 155,817 bytes holds any listing
--     Writing    bytes written one behind the other, as far as they fit
--     Pens       the same of a pen, which keeps the buffer and where to go on
--     Shown      what the entry promises: the listing stands in front of the buffer
--     CaseFive   the lines that document 01 prints for case 5
pub mod Answer
pub mod Unique
pub mod Enough
pub mod Leads
pub mod Sizes
pub mod Writing
pub mod Pens
pub mod Shown
pub mod CaseFive
