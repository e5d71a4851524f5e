mod Values
mod TableSearch
mod FrontTokens
mod LexerSteps
mod NextToken
mod StackLaws
mod Loads
