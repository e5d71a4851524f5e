-- Worked examples
mod ExamplesKindAsks
-- Multisets in slots with numbers
pub mod SlottedNumbers
pub mod SlottedViews
pub mod SlottedRules
pub mod SlottedListings
pub mod CountedMultisets
-- Sizes of functions
pub mod FunctionSizes
-- Partitions by numbers
pub mod PartNumbering
pub mod MemberNumbers
pub mod NumberingView
pub mod PartyRules
pub mod TogetherNumbers
pub mod TogetherTerms
pub mod TogetherRule
-- Parts as lookups
pub mod PartyLookup
-- Items of matrices
pub mod PlacesBelow
pub mod DomainItems
pub mod MatrixItems
-- Rules behind generators
pub mod UnorderedTails
-- Listings and lookups
pub mod ViewsOffer
pub mod TermsLookedUp
-- All rules that read the kind of a view
pub mod KindRulesKeep
-- Children of views whose tables are canonical
pub mod CanonicalChildren
