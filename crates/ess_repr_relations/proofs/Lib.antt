-- Lemmas on loops
pub mod OnlyParts
pub mod PartLists
pub mod NumberedMembers
-- One layer, kind by kind
pub mod RelationLaws
pub mod PartitionLaws
-- The calls by kind
pub mod RelationCalls
pub mod PartitionCalls
-- The calls over any domain
pub mod KindCalls
-- Worked examples
pub mod ExamplesPartNumbers
