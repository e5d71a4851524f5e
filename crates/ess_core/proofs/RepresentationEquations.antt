-- What a representation stands for.
use Rattle.std.proofs.Common.{◌≡◌, sym, ap, ◌∙◌, map}
use Rattle.ess_semantics.specs.Trees as pure
use Rattle.ess_semantics.specs.Choice.{reprs_of}
use Rattle.ess_core.specs.TreeViews.{repr_step, pure_repr}
use Rattle.ess_core.specs.declared.representations.Repr.{Repr}
use Rattle.ess_core.specs.declared.representations.Repr.TheViews.{out-Repr, roll-out-Repr}
use Rattle.ess_core.specs.declared.representations.Repr.TheFolds.{fold-roll-Repr}

pub pure_repr_is : (x : Repr) → pure_repr x ≡ pure.repr (out-Repr x).kind (reprs_of (map pure_repr (out-Repr x).children))
pure_repr_is x = ap pure_repr (sym (roll-out-Repr x)) ∙ fold-roll-Repr pure.Repr repr_step (out-Repr x)
