pub mod StackLaws
pub mod TwiceReversed
pub mod RowLaws
pub mod FieldLaws
pub mod PatternLaws
pub mod Bound
pub mod SharedItems
mod Declarations
mod StableSorting
mod RecordFields
mod ListEnds
