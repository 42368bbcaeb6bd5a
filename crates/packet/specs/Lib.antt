pub mod Kinds
pub mod Codes
pub mod Layout
pub mod Sums
pub mod Marks
pub mod Marking
pub mod Laws
