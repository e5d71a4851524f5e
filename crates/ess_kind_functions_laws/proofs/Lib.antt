pub mod JudgedFunctions
pub mod FunctionsAsked
