-- Generators at the last condition that reads a table, and generators behind others
mod PartedGens
mod GensBehind
-- Worked examples
mod ExamplesParted
