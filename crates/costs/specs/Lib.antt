pub mod Costed
pub mod Held
pub mod Visiting
pub mod Settled
pub mod OnlyCosts
pub mod Empty
