use Rattle.std.proofs.Common.{◌≡◌, ◌+◌, map, drop}
use Rattle.ess_core.specs.TypeViews.{pure_field_ty}
use Rattle.ess_types_operators.specs.Places.{place_in}
use Rattle.ess_node_types.proofs.records.place_of.Given as goal

abbrev pub invariant-loop-i : goal.invariant-loop-i
invariant-loop-i l = place_in l.name (map pure_field_ty l.sorted) ≡ l.i + place_in l.name (map pure_field_ty (drop l.i l.sorted))
