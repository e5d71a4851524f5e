-- Conjunctions, with whether they are of several
pub mod Conjunctions
