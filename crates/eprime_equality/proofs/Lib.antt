-- The operators and words
pub mod KnownWords
-- One layer of an expression
pub mod ExpressionLayers
-- Expressions
pub mod KnownExpressions
-- Models
pub mod KnownModels
-- From pure trees back to those of models
mod PureBack
mod TreesBack
-- Models with one pure model are one
pub mod ModelsBack
