pub mod Words
pub mod Entries
pub mod FileHeads
pub mod Going
pub mod Passing
pub mod Listing
pub mod Agreeing
pub mod Spelt
