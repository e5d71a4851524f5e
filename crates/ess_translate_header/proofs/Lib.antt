mod Judged
mod NamesFit
