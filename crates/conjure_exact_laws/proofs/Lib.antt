-- Tables of solutions
pub mod SolutionTables
-- Texts under a header
pub mod HeaderTexts
