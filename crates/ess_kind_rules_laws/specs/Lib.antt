-- What a view offers as a listing
pub mod ViewListings
-- What a selection from a term offers as a lookup
pub mod TermLookups
-- All rules that read the kind of a view, in one place
pub mod KindRules
