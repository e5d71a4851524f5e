-- Tables of solutions
pub mod OneTables
-- Laws
pub mod Laws
