pub mod Splits
pub mod Numerals
pub mod Reports
pub mod Purchases
pub mod Tellings
