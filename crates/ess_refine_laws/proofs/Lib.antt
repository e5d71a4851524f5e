pub mod Replaced
pub mod SparingRules
pub mod RulesSpare
pub mod PartialNumbers
pub mod Bounds
pub mod Everywhere
pub mod RefinedTrees
pub mod LeavingConditions
pub mod RecordNames
pub mod AllRules
pub mod ScalarOperands
pub mod RulesFire
pub mod NeverScalars
pub mod OpenLists
pub mod MovingNodes
pub mod MovingWords
pub mod MovingGenerators
pub mod Progress
pub mod ExamplesEverywhere
pub mod ExamplesAllRules
pub mod TypesStay
pub mod MarksStay
pub mod ScopesStay
pub mod ConstantsStay
pub mod ExamplesChains
pub mod MixedLists
pub mod ExtremeRules
pub mod IndexedLists
pub mod PastAll
pub mod ExtremeAlternatives
pub mod FlatSources
pub mod Copies
pub mod MovingConditions
pub mod ExamplesExtremes
pub mod ExamplesAlternatives
pub mod ExamplesLists
mod CountedOnce
mod ItemsOnceOver
mod ItemsOnce
mod ExamplesItemsOnce
mod Spelling
mod SpellingEnds
mod SpellingParts
mod SpellingRules
mod SpellingContainers
mod NumbersAreSpared
mod ExamplesSpelling
mod WiderScopes
mod PutScopes
mod PutTerms
mod ScopesOfParts
mod ScopesOfContainers
mod ScopesOfConditions
mod ScopesOfGenerators
mod ScopesOfItems
mod ScopesOfSources
mod ScopesOfRules
mod TypeJoins
mod TypesOfFolds
mod TypesOfComparisons
mod TypesOfRules
mod ExamplesTypesOfRules
mod TruthTypes
mod JudgedTrees
mod ExamplesJudgedTrees
