use Rattle.std.proofs.Common.{◌≡◌, ◌∷◌, take, pos}
use Rattle.ess_core.specs.declared.domains.Range.TheVariants.{One}
use Rattle.ess_core.specs.declared.expressions.Ex.TheVariants.{Num}
use Rattle.ess_repr.proofs.cells.with_0.Given as goal

abbrev pub invariant-loop-range : goal.invariant-loop-range
invariant-loop-range l = l.all ≡ One (Num (pos 0)) ∷ take l.range-index l.ranges
