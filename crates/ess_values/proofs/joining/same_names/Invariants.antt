use Rattle.std.proofs.Common.{◌≡◌, drop}
use Rattle.ess_semantics.specs.Order.{same_texts}
use Rattle.ess_values.proofs.joining.same_names.Given as goal

abbrev pub invariant-loop-i : goal.invariant-loop-i
invariant-loop-i l = same_texts l.a l.b ≡ same_texts (drop l.i l.a) (drop l.i l.b)
