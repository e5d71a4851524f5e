use Rattle.ess_bare_laws.proofs.Scalars.{bare-truth, bare-number}
use Rattle.ess_bare_laws.proofs.Refined.{bare-refined, bare-met, bare-closed}
use Rattle.ess_bare_laws.proofs.laws.bare_trees_are_scalars.Goals as goal

pub returns : goal.returns
returns c = record {
  number = bare-number;
  truth = bare-truth;
  refined = λ cells r e m b. bare-refined cells b;
  met = bare-met;
  closed = bare-closed;
}
