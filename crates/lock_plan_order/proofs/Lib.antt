pub mod FirstHeld
pub mod LockOrders
pub mod FewReads
pub mod WaitLists
pub mod WaitOrders
