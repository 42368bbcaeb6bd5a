pub mod Trees
pub mod Rules
pub mod Policies
