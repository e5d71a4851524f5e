pub mod Writing
pub mod Items
pub mod PatternLaws
pub mod ExpressionParts
pub mod DomainParts
pub mod StatementParts
pub mod RepresentationParts
pub mod ReadBack
