-- Items of literals
mod ItemLists
-- Numbers that conditions choose
mod ChoiceForms
-- Worked examples
mod ExamplesBefore
