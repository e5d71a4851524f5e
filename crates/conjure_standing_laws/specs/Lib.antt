-- The law of chains in bare trees
pub mod BareLaws
-- The law of chains
pub mod SeenLaws
-- The law
pub mod SetwiseLaws
-- The law
pub mod SetwiseComing
-- Finds that are sets of any nesting
pub mod NestedFinds
-- The laws
pub mod NestedLaws
-- The laws
pub mod FlatLaws
-- The laws that a model is written
pub mod ComingLaws
-- The laws
pub mod MemberLaws
-- The laws
pub mod MixedLaws
-- What a text is worth that is written as the model of another one
pub mod Standing
-- Texts of specifications of sets of atoms
pub mod MemberTexts
-- Texts of specifications of scalars and sets
pub mod MixedTexts
-- The law
pub mod Laws
