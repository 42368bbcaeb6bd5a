pub mod Digits
pub mod Readings
pub mod Octets
pub mod Hexes
pub mod Chosen
pub mod Tidy
