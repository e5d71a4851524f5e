pub mod Putting
pub mod TablesJudged
pub mod Fitting
