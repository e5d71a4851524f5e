-- Operands behind others
pub mod Before
