-- Numbers that are there everywhere, by the operator
pub mod NumberNodes
pub mod ThereParts
-- What reads a table, part by part
pub mod TableParts
