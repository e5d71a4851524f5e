-- Types with positions
mod PlacedTypes
-- Forms stay
mod ShownForms
mod BareForms
mod ToldForms
-- Worked examples
mod Examples
