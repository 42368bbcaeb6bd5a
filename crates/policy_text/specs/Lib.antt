pub mod Places
pub mod Amounts
pub mod Meters
pub mod Lines
pub mod Texts
pub mod Policies
pub mod Laws
