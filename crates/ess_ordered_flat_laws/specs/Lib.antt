-- Flat trees have no comprehension in order
pub mod FlatOrdered
-- Nor one over a source whose items are counted
pub mod FlatNumbered
