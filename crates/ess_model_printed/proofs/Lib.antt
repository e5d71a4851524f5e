-- Printed names
pub mod PrintedNames
-- Generators and conditions one by one
pub mod PrintedItems
