-- Printed names, one after the other
pub mod PrintedNames
-- Generators and conditions one by one
pub mod PrintedItems
