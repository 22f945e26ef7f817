pub mod Differences
pub mod Done
pub mod Entries
pub mod Makers
pub mod PlainRaws
pub mod Refusals
pub mod Reports
pub mod Texts
