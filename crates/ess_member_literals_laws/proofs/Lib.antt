-- Literals of parts
pub mod PartLiterals
pub mod EntryLiterals
pub mod MatrixMembers
pub mod NamesAgree
-- Members
pub mod MemberLiterals
