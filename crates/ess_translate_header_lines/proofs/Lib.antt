mod LanguageParts
mod ReadLines
mod Turns
mod Answered
