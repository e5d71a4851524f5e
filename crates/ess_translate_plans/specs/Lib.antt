-- What plans of the code stand for
pub mod Views
-- What is found where names are tried
pub mod Trying
-- What it means that plans are added
pub mod Adding
-- Whether declared tables have the names of plans
pub mod SameTables
