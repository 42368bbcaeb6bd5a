pub mod Documents
pub mod Fresh
