pub mod Counts
pub mod Trees
pub mod Sinks
pub mod Calls
pub mod MemoryFiles
pub mod MemorySink
