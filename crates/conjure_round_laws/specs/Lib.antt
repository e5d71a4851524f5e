-- What tables stand for
pub mod Stood
-- Values as lettings
pub mod LetLiterals
-- Tables that come back
pub mod ComeBack
-- Laws
pub mod Laws
