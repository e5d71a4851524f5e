-- Atoms
mod AtomCells
-- Matrices
mod ElementLoops
mod NestingLoops
-- By kind
mod ScalarParts
mod ScalarDown
mod ScalarUp
