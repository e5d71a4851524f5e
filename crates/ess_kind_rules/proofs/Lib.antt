-- Rules by the parts of a root
mod WordForms
mod CompForms
-- Sets united from the back, and operands that pick
mod SetRows
mod PickedRows
-- Generators that no table decides
mod DecidedForms
-- Each rule that fires is one of the rules of kinds
mod KindRoots
-- Where the code answers nothing the rule doesn't fire
pub mod NoneOfKinds
