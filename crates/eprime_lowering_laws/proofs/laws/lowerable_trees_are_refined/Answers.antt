use Rattle.ess_semantics.specs.Refined.{is_refined}
use Rattle.eprime_lowering_laws.specs.Formed.{is_formed}
use Rattle.eprime_lowering_laws.proofs.Tests.{both}
use Rattle.eprime_lowering_laws.proofs.Lowered.{whole}
use Rattle.eprime_lowering_laws.proofs.laws.lowerable_trees_are_refined.Goals as goal

pub returns : goal.returns
returns c = λ s e h. both (is_refined e) (is_formed s e) (whole s e h).0 (whole s e h).1
