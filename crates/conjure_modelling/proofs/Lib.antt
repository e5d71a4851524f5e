mod Examples
pub mod ChosenFit
mod InlineParts
mod Inline
mod PlainBytes
pub mod HeaderLines
mod HeaderOurs
pub mod DerivedAgain
pub mod Represented
pub mod WhatIsWritten
