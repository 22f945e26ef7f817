pub mod OwnerTables
pub mod OwnerCalls
pub mod LevelSteps
pub mod Guards
pub mod ArcGuards
