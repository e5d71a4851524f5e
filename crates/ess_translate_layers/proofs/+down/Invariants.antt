use Rattle.ess_core.specs.TreeViews.{pure_repr}
use Rattle.ess_eval_domains.specs.ClosedViews.{pure_closed}
use Rattle.ess_translate_layers.proofs.ComponentLoops.{TablesOfFirst}
use Rattle.ess_translate_layers.proofs.DownLoops.{TablesSoFar}
use Rattle.ess_translate_layers.proofs.+down.Given as goal

abbrev pub invariant-down::tables_of_each-loop-val : goal.invariant-down::tables_of_each-loop-val
invariant-down::tables_of_each-loop-val l = TablesSoFar (pure_repr l.repr) (pure_closed l.domain) l.vals l.val-index l.each

abbrev pub invariant-components::tables_of_components-loop-index : goal.invariant-components::tables_of_components-loop-index
invariant-components::tables_of_components-loop-index l = TablesOfFirst l.reprs l.domains l.vals l.index l.all
