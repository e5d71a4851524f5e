use Rattle.std.proofs.Common.{◌≡◌, map, take}
use Rattle.ess_core.specs.TreeViews.{pure_repr}
use Rattle.conjure_options.proofs.Fillings.{for_dom}
use Rattle.conjure_options.proofs.filling.defaults.Given as goal

abbrev pub invariant-loop-dom : goal.invariant-loop-dom
invariant-loop-dom l = map pure_repr l.chosen ≡ map for_dom (take l.dom-index l.doms)
