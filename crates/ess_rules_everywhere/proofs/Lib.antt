-- Numbers that are there everywhere
mod Numerals
mod EachItem
mod NumberOperators
mod OtherOperators
mod ThereEverywhere
-- What reads a table
mod CellParts
-- Worked examples
mod ExamplesParts
