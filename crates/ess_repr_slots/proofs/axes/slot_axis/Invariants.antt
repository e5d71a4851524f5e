use Rattle.std.proofs.Common.{◌≡◌, pos}
use Rattle.ess_semantics.specs.Numbers.{one_to}
use Rattle.ess_repr_slots.proofs.axes.slot_axis.Given as goal

abbrev pub invariant-loop-k : goal.invariant-loop-k
invariant-loop-k l = record {
  so_far : l.axis ≡ one_to l.k;
  last : l.last ≡ pos l.k;
}
