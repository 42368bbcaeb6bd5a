pub mod Readings
pub mod Uncoloured
pub mod Single
pub mod Two
pub mod Documented
