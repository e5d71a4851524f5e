-- Forms of domains, and the numbers in them
pub mod Shapes
pub mod WholeNumbers
pub mod AtomsReady
pub mod NeatDomains
pub mod ToldSizes
pub mod FittingChildren
pub mod ReadyParts
pub mod ReadySets
pub mod ReadyFunctions
pub mod ReadyConversions
pub mod ReadyAll
-- From the judgements
pub mod OrderlyAttributes
pub mod OrderlyDenoted
pub mod FreeTotals
pub mod NamesApart
pub mod OrderlyJudged
pub mod JudgedViews
pub mod SoundTogether
pub mod JudgedNumbers
pub mod LiteralMarks
pub mod JudgedLiterals
-- What structures are built of
pub mod PickedNumbers
pub mod BuiltStructures
pub mod BuiltShapes
pub mod BuiltParts
pub mod BuiltSets
pub mod BuiltItems
pub mod BuiltViews
pub mod BuiltSizes
pub mod BuiltAll
-- Structures are total
pub mod DenotedParts
pub mod TotalSizes
pub mod TotalStructures
pub mod TotalForms
pub mod TotalTerms
-- Structures spell numbers of the domain
pub mod ConstantStructures
pub mod ConstantViews
pub mod TotalViews
-- Tables meet structures
pub mod MetParts
pub mod MetLayers
pub mod MetKinds
pub mod MetSlots
pub mod MetFunctions
pub mod MetTuples
pub mod MetAll
pub mod MetViews
-- Tables are full for structures
pub mod FullParts
pub mod FullCells
pub mod FullSlots
pub mod FullCounts
pub mod FullSeen
pub mod FullKinds
pub mod FullSets
pub mod FullFunctions
pub mod FullTuples
pub mod FullLayers
pub mod FullAll
pub mod FullNumbers
pub mod PassingParts
pub mod FreeUnder
pub mod FreeStructures
pub mod FullViews
-- Worked examples
pub mod ExamplesStructures
pub mod ExamplesFull
