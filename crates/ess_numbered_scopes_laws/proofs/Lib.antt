-- Trees in scope with other names
pub mod ScopesMoved
-- What stays behind generators
pub mod ScopesBehind
-- How many items a list has at most
pub mod MostScoped
-- Lists by the numbers of their items
pub mod ListsScoped
-- What rules make behind plain generators
pub mod PlainScoped
-- Lists in place of other matrices
pub mod ListedScopes
-- All rules
pub mod NumberedScopes
-- Worked examples
mod ExamplesScopes
