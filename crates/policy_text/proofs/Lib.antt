pub mod Checks
pub mod Spaces
pub mod Tails
pub mod Written
pub mod Firsts
pub mod Tidy
pub mod Splits
pub mod Whole
