pub mod JudgedPartitions
pub mod PartitionSources
pub mod ToldMembers
pub mod PartitionsAsked
