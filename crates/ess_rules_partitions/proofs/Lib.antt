-- What rules are of the forms that they ask for
mod AskedForms
mod NumberedForms
mod PartyForms
mod TogetherForms
-- One more operand behind the others
mod LastOperand
-- Worked examples
mod ExamplesAsked
