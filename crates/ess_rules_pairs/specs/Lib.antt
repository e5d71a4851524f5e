-- What a run over arguments in the code stands for
pub mod CodeRuns
-- Applications
pub mod Applications
