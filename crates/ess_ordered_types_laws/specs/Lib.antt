-- What rules of comprehensions whose items have an order ask so as to keep types and marks
pub mod OrderedTyped
-- And the one that gathers conditions
pub mod GatheringTyped
