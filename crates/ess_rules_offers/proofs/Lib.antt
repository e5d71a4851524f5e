-- Views of matrices by their first index domain
mod AxisForms
-- Items of literals over an index domain
mod PlacedItems
-- Parts of partitions, by the operands
mod PartyForms
-- Views by their kind, and the set of a multiset's members
mod ListedForms
-- What is looked up, by what is picked within
mod LookedForms
-- Worked examples
mod ExamplesOffers
