-- Atoms and matrices
pub mod ScalarForms
pub mod NestedMatrices
