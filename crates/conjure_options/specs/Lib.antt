-- Pieces of a text
pub mod Pieces
-- Children that are left out
pub mod Filled
-- The items of a list of representations
pub mod Items
-- Why a list is refused
pub mod Refused
-- The representations of all givens and finds
pub mod Chosen
