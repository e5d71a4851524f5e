-- Generators taken apart at the first that isn't plain
mod OpenRows
-- Rules by the parts of a root
mod WordForms
mod PatternForms
mod LooseForms
-- Generators over domains alone
mod DomainForms
