pub mod Numbered
pub mod Lowest
