-- What terms offer, in the code
pub mod PureAlternatives
pub mod OnceParts
