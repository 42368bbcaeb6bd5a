pub mod Ancestry
pub mod Pushed
pub mod Firsts
pub mod Taken
