-- Models, refusals, and parameters under which tables stand
pub mod Transported
pub mod Files
pub mod Refused
pub mod Solved
