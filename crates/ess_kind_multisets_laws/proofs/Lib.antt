pub mod JudgedMultisets
pub mod MultisetSources
pub mod MultisetsAsked
