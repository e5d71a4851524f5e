-- What texts stand for, and why they are refused
pub mod Sides
pub mod Walks
pub mod Texts
pub mod Refusals
pub mod Answers
