-- Sources, relations applied
pub mod OpenedFolds
pub mod PatternSources
pub mod OpenedSources
-- Words that see no index domain, or no repeats
pub mod PlainLists
pub mod LooseTails
-- Several alternatives
pub mod ItemsAcross
pub mod OpenedAlternatives
-- All these rules
pub mod OpenRulesKeep
