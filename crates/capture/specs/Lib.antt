pub mod Refusals
pub mod Numbers
pub mod Records
pub mod Headers
pub mod Reading
pub mod Feeding
pub mod Indexing
pub mod Laws
