-- What rules of views of partitions have at hand
pub mod PartitionsAtHand
