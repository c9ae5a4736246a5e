-- The string of a nonterminal's cheapest rules, over a table of their right sides.
--     Spelling    what such a table spells, and how long that is
--     Laws        laws of it
--     Spelled     that it is the string of the definitions, where the table is that of accepted words
--     Gathering   how the table comes from the parser's tables
--     Lengths     what the table of lengths holds, round by round
--     Work        what is left to be spelled, with the steps that it takes
--     Turns       the turns of spelling
--     Ready       what the methods of `Strings` rest on
pub mod Spelling
pub mod Laws
pub mod Spelled
pub mod Gathering
pub mod Lengths
pub mod Work
pub mod Turns
pub mod Ready
