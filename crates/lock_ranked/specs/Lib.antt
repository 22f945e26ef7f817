pub mod Guards
pub mod RwLockGuards
pub mod RowOrders
pub mod Rows
pub mod MappedGuards
pub mod ReentrantGuards
pub mod Condvars
pub mod Moments
