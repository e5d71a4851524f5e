use Rattle.std.proofs.Common.{◌≡◌, map, take}
use Rattle.ess_core.specs.ValueViews.{pure_val}
use Rattle.ess_values_lookups.specs.Rising.{has_rising_items}
use Rattle.ess_eval.proofs.risen.flags_of.Given as goal

abbrev pub invariant-loop-binding : goal.invariant-loop-binding
invariant-loop-binding l = l.flags ≡ map (λ b. has_rising_items (pure_val b.val)) (take l.binding-index l.vals)
