-- Lemmas on loops
pub mod PickedValues
pub mod ListedMembers
pub mod CountLoops
pub mod RepeatedValues
pub mod HeldMembers
pub mod CountedTables
-- One layer, kind by kind
pub mod OverDeclared
pub mod SetsDown
pub mod SetsUp
pub mod MultisetsDown
pub mod MultisetsUp
-- The calls by kind
pub mod SetCalls
pub mod MultisetCalls
