use Rattle.ess_core.specs.TreeViews.{pure_repr}
use Rattle.ess_eval_domains.specs.ClosedViews.{pure_closed}
use Rattle.ess_translate_layers.proofs.ComponentLoops.{ValuesOfFirst}
use Rattle.ess_translate_layers.proofs.UpLoops.{ValuesSoFar}
use Rattle.ess_translate_layers.proofs.+up.Given as goal

abbrev pub invariant-up::values_of_each-loop-slot : goal.invariant-up::values_of_each-loop-slot
invariant-up::values_of_each-loop-slot l = ValuesSoFar (pure_repr l.repr) (pure_closed l.domain) l.slots l.slot-index l.vals

abbrev pub invariant-components::values_of_components-loop-index : goal.invariant-components::values_of_components-loop-index
invariant-components::values_of_components-loop-index l = ValuesOfFirst l.reprs l.domains l.tables l.index l.rest l.vals
