pub mod Ready
pub mod Accessors
pub mod Inside
pub mod Parts
