-- Worked examples
pub mod ExamplesOpen
-- Worked examples of comprehensions whose order stays
pub mod ExamplesInOrder
