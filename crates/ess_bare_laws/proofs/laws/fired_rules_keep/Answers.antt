use Rattle.ess_bare_laws.proofs.Fired.{stays-bare}
use Rattle.ess_bare_laws.proofs.FiredKeep.{fired-keeps}
use Rattle.ess_bare_laws.proofs.FiredScopes.{fired-scoped}
use Rattle.ess_bare_laws.proofs.FiredNumbers.{fired-spells, part-spells}
use Rattle.ess_bare_laws.proofs.laws.fired_rules_keep.Goals as goal

pub returns : goal.returns
returns c = record {
  stays_bare = stays-bare;
  keeps = λ cells r e f m b q w env t v. fired-keeps cells r env t e f m b q w v;
  scoped = fired-scoped;
  spells = fired-spells;
  spells_at_a_part = part-spells;
}
