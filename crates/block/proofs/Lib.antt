-- What callers cite of a block's check.
pub mod Parts
