-- Views in the place of names
pub mod ShownGiven
-- Judged trees
pub mod JudgedGiven
-- From judged trees to refined ones
pub mod SpecificationsGiven
