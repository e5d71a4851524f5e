-- What listings are of views by their parts
mod LeafListings
mod NestedListings
mod OnceListings
mod PairListings
-- One more operand behind the others
mod LastOperand
-- Worked examples
mod ExamplesViews
