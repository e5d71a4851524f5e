-- Alternatives of literals
mod CaseRows
-- What is made of each alternative
mod EachRows
-- Worked examples
mod ExamplesCases
