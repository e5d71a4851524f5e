-- Names bound around a place
pub mod Renames
-- Trees in front of others
pub mod Before
-- Generators and conditions one by one
pub mod ToldItems
