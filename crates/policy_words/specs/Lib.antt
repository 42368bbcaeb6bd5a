pub mod Causes
pub mod Numbers
pub mod Words
pub mod Addresses
pub mod Choices
pub mod Texts
pub mod Laws
