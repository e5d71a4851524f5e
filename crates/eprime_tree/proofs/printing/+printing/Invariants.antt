use Rattle.eprime_tree.proofs.printing.+printing.Given as goal
use Rattle.eprime_tree.proofs.Loops.{GensListed}
use Rattle.eprime_tree.proofs.PrintedLists.{ExsListed, RangesListed}

abbrev pub invariant-lists::print_exs-loop-index : goal.invariant-lists::print_exs-loop-index
invariant-lists::print_exs-loop-index l = ExsListed l.initial.out l.out l.index l.ex-items

abbrev pub invariant-lists::print_gens-loop-index : goal.invariant-lists::print_gens-loop-index
invariant-lists::print_gens-loop-index l = GensListed l.initial.out l.out l.index l.item-items

abbrev pub invariant-lists::print_ranges-loop-index : goal.invariant-lists::print_ranges-loop-index
invariant-lists::print_ranges-loop-index l = RangesListed l.initial.out l.out l.index l.range-items
