pub mod ValuedSimulation
pub mod SplicedValues
pub mod OfferedValues
pub mod CollectedLists
pub mod LeastValues
pub mod PutValues
pub mod ListedValues
pub mod SourcesKeepValues
