pub mod Telling
pub mod Turning
pub mod Sweeping
pub mod OrderLaws
pub mod Ages
pub mod LastUses
