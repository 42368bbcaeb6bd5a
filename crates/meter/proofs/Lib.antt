pub mod Keeps
pub mod Fill
pub mod Held
pub mod Following
pub mod Running
