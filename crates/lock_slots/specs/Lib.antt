pub mod Items
pub mod Rows
pub mod NumberedItems
pub mod Lends
