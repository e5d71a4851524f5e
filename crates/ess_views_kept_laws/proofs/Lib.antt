-- Views whose structure is met
pub mod SideBySide
pub mod OpenedViews
-- Components
pub mod ComponentViews
-- Items of matrices
pub mod MatrixRuns
pub mod MatrixPlaces
pub mod MatrixViews
-- Values kept as another value
pub mod SameMembers
pub mod ChildViews
pub mod AskedChildren
-- Multisets
pub mod NumberedMembers
pub mod MultisetSizes
pub mod MultisetViews
pub mod MultisetListing
pub mod MembersOnce
pub mod UsedMembers
pub mod RepetitionListing
-- Partitions by the number of each member's part
pub mod PartitionViews
pub mod ParticipantViews
-- Worked examples
mod ExamplesKept
