-- What rules are of the forms that they ask for
mod AskedForms
mod MultisetForms
-- Worked examples
mod ExamplesAsked
