-- Items of matrices, and indices that read cells
pub mod IndexForms
-- Names over a domain
pub mod AloneForms
-- What is picked in order
pub mod PickedForms
-- What the rules take
pub mod Supplies
-- Domains that are looked through
pub mod ToldForms
-- Items of written lists, case by case
pub mod CaseForms
-- Sources that are items
pub mod ItemForms
