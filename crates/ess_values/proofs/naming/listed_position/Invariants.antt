use Rattle.std.proofs.Common.{◌≡◌, suc, drop}
use Rattle.ess_semantics.specs.Values.{Text}
use Rattle.ess_semantics.specs.Literals.{named_item}
use Rattle.ess_values.proofs.naming.listed_position.Given as goal

abbrev pub invariant-loop-i : goal.invariant-loop-i
invariant-loop-i l = (t : Text) → named_item t 1 l.names l.name ≡ named_item t (suc l.i) (drop l.i l.names) l.name
