mod GivenNames
mod OtherTokens
