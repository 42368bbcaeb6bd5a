pub mod Answers
pub mod Histories
pub mod Windows
pub mod Tracks
