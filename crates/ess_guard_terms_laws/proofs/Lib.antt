-- What types say of values
mod TermTypes
-- Worked examples
mod Examples
