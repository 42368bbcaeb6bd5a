pub mod Passing
pub mod Flows
pub mod Moving
pub mod Holding
