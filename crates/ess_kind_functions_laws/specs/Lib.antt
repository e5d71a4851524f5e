-- What rules of views of functions have at hand
pub mod FunctionsAtHand
