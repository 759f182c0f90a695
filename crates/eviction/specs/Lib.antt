pub mod Places
pub mod Policy
pub mod Clock
pub mod Order
pub mod OldestUse
