pub mod Rules
pub mod Alone
pub mod Windows
pub mod Laws
pub mod Runs
