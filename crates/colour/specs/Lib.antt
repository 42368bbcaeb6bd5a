pub mod Words
pub mod Arrivals
pub mod Purchase
pub mod Texts
pub mod Report
pub mod Told
