-- What callers name of libraries below
pub use Rattle.ess_flat_headers_laws.proofs as ess_flat_headers_laws
-- The representations that are chosen
pub mod ChosenSets
-- The lines are the header
pub mod MemberHeaders
-- Options that choose alike
pub mod KeptChosen
