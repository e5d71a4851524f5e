use Rattle.std.proofs.Common.{◌≡◌, map, true}
use Rattle.std.specs.List.{list_all}
use Rattle.ess_core.specs.ValueViews.{pure_val}
use Rattle.ess_semantics.specs.Membership.{is_set}
use Rattle.conjure_texts_driver.proofs.values.sets_of.Given as goal

abbrev pub invariant-loop-val : goal.invariant-loop-val
invariant-loop-val l = list_all is_set (map pure_val l.sets) ≡ true
