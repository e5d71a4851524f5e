use Rattle.std.proofs.Common.{◌≡◌, ◌+◌, map, drop}
use Rattle.ess_values.specs.Places.{place_in}
use Rattle.ess_core.specs.ValueViews.{pure_field_val}
use Rattle.ess_eval_operators.proofs.records.place_of.Given as goal

abbrev pub invariant-loop-i : goal.invariant-loop-i
invariant-loop-i l = place_in (pure_field_val l.field).0 (map pure_field_val l.sorted)
    ≡ l.i + place_in (pure_field_val l.field).0 (map pure_field_val (drop l.i l.sorted))
