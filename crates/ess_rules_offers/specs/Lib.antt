-- Views of matrices by their first index domain
pub mod Axes
-- Parts of partitions
pub mod Parties
-- The set of a multiset's members
pub mod Listed
