-- What the rules make of the parts of a comprehension
pub mod GeneratorParts
pub mod RecordParts
