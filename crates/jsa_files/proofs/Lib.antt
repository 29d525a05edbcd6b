pub mod ClassNames
pub mod MemoryStore
pub mod PlanEntries
pub mod PlannedPuts
pub mod PlannedWrites
pub mod Taken
pub mod WholeReads
pub mod WholeWrites
