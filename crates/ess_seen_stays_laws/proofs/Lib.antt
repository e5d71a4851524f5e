-- What rules make
pub mod Terms
pub mod NamesBoth
pub mod Offered
pub mod OfTwo
pub mod Opened
pub mod MadePlainly
pub mod MadeChoices
pub mod MadeSigns
pub mod MadeAtViews
pub mod MadeNested
pub mod MadeOverSources
pub mod MadeOpened
pub mod Stays
-- What is known of such trees
pub mod Known
-- Worked examples
mod ExamplesStays
mod ExamplesSums
