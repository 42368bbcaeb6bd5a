pub mod Keys
pub mod Longer
pub mod Pathing
pub mod Law
pub mod Tracking
