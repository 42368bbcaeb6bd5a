pub mod Chains
pub mod Linked
pub mod Grown
pub mod Whole
pub mod MapLaws
