-- What satisfying tables stand for
pub mod StoodSolutions
-- Domains that have literals
pub mod WrittenParts
pub mod FieldsDiffer
-- Numbers that fit
pub mod NumbersInside
pub mod NumbersFit
pub mod FiniteFinds
-- Values read again
pub mod ValuesFromFiles
pub mod SolutionsAgain
-- Texts of solutions
pub mod ReadableReady
pub mod HeaderWalks
pub mod TextsComeBack
