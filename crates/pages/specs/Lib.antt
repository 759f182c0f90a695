pub mod Fault
pub mod Store
pub mod Pieces
pub mod Memory
pub mod Flat
pub mod Records
pub mod Log
pub mod LogView
