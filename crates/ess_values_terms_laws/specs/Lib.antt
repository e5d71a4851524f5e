-- Rules of comparisons, membership, sizes and lists that keep values
pub mod TermsKeepValues
