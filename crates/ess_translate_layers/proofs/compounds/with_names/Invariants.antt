use Rattle.std.proofs.Common.{◌≡◌, ◌++◌, map, drop}
use Rattle.ess_semantics.specs.Lists.{zip}
use Rattle.ess_semantics.specs.Names.{keys}
use Rattle.ess_core.specs.ValueViews.{pure_val, pure_field_val}
use Rattle.ess_eval_domains.specs.ClosedViews.{pure_field_closed}
use Rattle.ess_translate_layers.proofs.compounds.with_names.Given as goal

abbrev pub invariant-loop-i : goal.invariant-loop-i
invariant-loop-i l =
    zip (keys (map pure_field_closed l.fields)) (map pure_val l.vals)
    ≡ map pure_field_val l.row ++ zip (keys (map pure_field_closed (drop l.i l.fields))) (map pure_val (drop l.i l.vals))
