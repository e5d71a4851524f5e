-- What the contracts of verdicts say beside the definitions of satisfaction
pub mod Denoting
pub mod NamesInOrder
pub mod ClosedDecls
pub mod ModelVerdicts
