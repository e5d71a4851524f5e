-- Worked examples
mod ExamplesUncounted
-- Expressions at whose root no rule of counted sources fires
pub mod Uncounted
