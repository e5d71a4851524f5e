-- Forms of roots
pub mod Forms
-- What a term offers, in the code
pub mod PureAlternatives
