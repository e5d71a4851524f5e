-- Operators on a picked value that is there
pub mod PicksThere
-- What lookups count on beside values
pub mod LookupsBeside
-- What rules of what is picked count on beside values
pub mod PicksBeside
-- What rules of sources count on beside values
pub mod SourcesBeside
-- All rules of openings
pub mod OpensCounted
