pub mod Rows
pub mod Moves
pub mod Charged
pub mod KindTables
pub mod Carrying
pub mod Offers
