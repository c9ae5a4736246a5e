-- What the exported functions promise.
pub mod Status
pub mod Fitting
pub mod Unique
