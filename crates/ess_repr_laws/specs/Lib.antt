-- Finite domains, room, well-formed expressions
pub mod Finite
pub mod Rooms
pub mod WellFormed
-- Canonical tables
pub mod CanonicalTables
-- Positions in place of named types
pub mod TypedDomains
-- The constraint that cells are canonical
pub mod StructureParts
pub mod RelationParts
pub mod ViewParts
pub mod FunctionParts
pub mod MultisetParts
pub mod PartitionParts
pub mod PartSizes
pub mod Structure
pub mod StructureMeaning
pub mod StructureReady
-- Two views of one value
pub mod Channel
-- What is proved
pub mod Laws
