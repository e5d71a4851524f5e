-- Lemmas on loops
pub mod SlotLoops
pub mod CountedLoops
pub mod PlaceLoops
