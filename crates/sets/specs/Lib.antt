pub mod Bits
pub mod Operations
pub mod Laws
pub mod Taking
