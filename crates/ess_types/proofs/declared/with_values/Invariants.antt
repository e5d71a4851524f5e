use Rattle.std.proofs.Common.{◌≡◌, ◌∷◌, take}
use Rattle.ess_types.proofs.declared.with_values.Given as goal

abbrev pub invariant-loop-value : goal.invariant-loop-value
invariant-loop-value l = l.names ≡ l.name ∷ take l.value-index l.values
