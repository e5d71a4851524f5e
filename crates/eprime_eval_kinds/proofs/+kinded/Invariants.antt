use Rattle.std.proofs.Common.{take}
use Rattle.eprime_eval_kinds.specs.BoundNames.{scope_kinds}
use Rattle.eprime_eval_kinds.specs.Kinding.{AreKinded, AreKindedGens, AreKindedRanges}
use Rattle.eprime_eval_kinds.proofs.+kinded.Given as goal

abbrev pub invariant-expressions::kinded_exs-loop-ex : goal.invariant-expressions::kinded_exs-loop-ex
invariant-expressions::kinded_exs-loop-ex l = AreKinded l.declared (scope_kinds l.scope) (take l.ex-index l.exs) l.row

abbrev pub invariant-generators::kinded_gens-loop-item : goal.invariant-generators::kinded_gens-loop-item
invariant-generators::kinded_gens-loop-item l = AreKindedGens l.declared (scope_kinds l.initial.scope) (take l.item-index l.gens) l.items
    (scope_kinds l.scope)

abbrev pub invariant-domains::kinded_ranges-loop-range : goal.invariant-domains::kinded_ranges-loop-range
invariant-domains::kinded_ranges-loop-range l = AreKindedRanges l.declared (scope_kinds l.scope) (take l.range-index l.ranges) l.items
