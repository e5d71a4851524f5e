-- New names
pub mod NewNames
-- Multisets, whatever their kind
pub mod MultisetAsks
-- Partitions by numbers
pub mod PartitionAsks
-- Listings of views
pub mod ViewAsks
-- Sizes of functions
pub mod FunctionAsks
-- Parts as lookups
pub mod PartyAsks
-- Lookups
pub mod LookupAsks
-- Rules behind generators
pub mod UnorderedTails
-- All rules that read the kind of a view
pub mod KindAsks
-- Children of views whose tables are canonical
pub mod CanonicalChildren
