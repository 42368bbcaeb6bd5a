pub mod Summing
pub mod Counted
