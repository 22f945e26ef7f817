pub mod LockOrders
pub mod WaitChecks
