-- Rows of domains and of tables
mod Rows
-- Atoms that have a dummy
mod DummyLaws
-- What stands between names
mod EndingLaws
-- Children one by one
mod ChildSteps
-- Worked examples
mod Examples
