-- Worked examples
mod ExamplesSelftest
-- Texts, line by line
pub mod Upto
-- The model with its constraints
pub mod Made
-- The members of sets
pub mod Sizes
-- What is counted behind each call
pub mod Behind
mod Examples
mod ExamplesTasks
pub mod NameLaws
pub mod LineLaws
pub mod Scans
pub mod WritingLaws
pub mod ReadingLaws
pub mod NamingLaws
pub mod PieceLaws
pub mod CountLaws
pub mod EndingLaws
pub mod TaskLaws
pub mod JudgingLaws
pub mod DecidedLaws
pub mod TranslatingLaws
pub mod TranslationTexts
pub mod TranslationLaws
pub mod RefiningLaws
pub mod TakenLists
pub mod TextLaws
pub mod WholeLaws
pub mod TestingLaws
pub mod RunLaws
pub mod StandingLaws
pub mod HoldingLaws
