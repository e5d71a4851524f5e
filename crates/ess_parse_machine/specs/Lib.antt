pub mod Parsers
pub mod Firsts
