-- Items of views, by the operands and by the parts of the view
mod IndexedForms
-- Worked examples
mod ExamplesIndexed
