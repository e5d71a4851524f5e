use Rattle.std.proofs.Common.{◌≡◌, map, take}
use Rattle.ess_parse.specs.NamedReprViews.{pure_named_reprs}
use Rattle.conjure_options.specs.Chosen.{chosen_for}
use Rattle.conjure_options.proofs.ChosenLaws.{doms}
use Rattle.conjure_options.proofs.chosen.reprs_of.Given as goal

abbrev pub invariant-loop-stm : goal.invariant-loop-stm
invariant-loop-stm l = map pure_named_reprs l.reprs ≡ chosen_for (map pure_named_reprs l.options) (doms (take l.stm-index l.stms))
