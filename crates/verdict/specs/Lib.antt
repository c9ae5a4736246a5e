pub mod Judge
pub mod Parts
pub mod Sets
pub mod Prices
pub mod Rows
pub mod Filling
pub mod Answer
