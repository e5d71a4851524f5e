-- Items of literals
mod ItemRows
-- Scalars among nodes
mod ScalarNodes
