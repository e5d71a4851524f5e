-- The forms of trees that the rules ask for
pub mod Asked
