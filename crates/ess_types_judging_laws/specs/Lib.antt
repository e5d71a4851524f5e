pub mod Found
pub mod Judged
pub mod Combined
pub mod Verdicts
pub mod Laws
pub mod Accumulated
pub mod Reached
