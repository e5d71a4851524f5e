use Rattle.ess_depth_laws.proofs.ByNames.{within-names}
use Rattle.ess_depth_laws.proofs.Depths.{within-binders, further}
use Rattle.ess_depth_laws.proofs.Below.{within-reserved, below-spared}
use Rattle.ess_depth_laws.proofs.laws.depths_are_bounded.Goals as goal

pub returns : goal.returns
returns c = record {
  by_names = within-names;
  by_reserved = within-reserved;
  by_binders = within-binders;
  further = λ n m e l h. further e n m l h;
  spared = below-spared;
}
