-- How functions are kept
pub mod FunctionForms
pub mod FunctionRows
-- What is asked of a layer with one child
pub mod FunctionPremises
