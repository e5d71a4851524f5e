use Rattle.std.proofs.Common.{◌≡◌, ◌++◌, map, drop}
use Rattle.ess_core.specs.TreeViews.{pure_repr}
use Rattle.conjure_options.proofs.Fillings.{filled_list}
use Rattle.conjure_options.proofs.filling.+filled.Given as goal

abbrev pub invariant-all_filled-loop-i : goal.invariant-all_filled-loop-i
invariant-all_filled-loop-i l =
    map pure_repr l.filled_ones ++ filled_list (drop l.i l.given) (drop l.i l.doms) ≡ filled_list l.given l.doms
