pub mod Tables
pub mod Lexing
pub mod Scan
pub mod Stacks
pub mod StackItems
