use Rattle.std.proofs.Common.{◌≡◌, take}
use Rattle.eprime_tree.proofs.+copy.Given as goal

abbrev pub invariant-copies::expressions::copy_exs-loop-ex : goal.invariant-copies::expressions::copy_exs-loop-ex
invariant-copies::expressions::copy_exs-loop-ex l = l.copies ≡ take l.ex-index l.ex-items

abbrev pub invariant-copies::expressions::copy_gens-loop-item : goal.invariant-copies::expressions::copy_gens-loop-item
invariant-copies::expressions::copy_gens-loop-item l = l.copies ≡ take l.item-index l.item-items

abbrev pub invariant-copies::expressions::copy_ranges-loop-range : goal.invariant-copies::expressions::copy_ranges-loop-range
invariant-copies::expressions::copy_ranges-loop-range l = l.copies ≡ take l.range-index l.range-items
