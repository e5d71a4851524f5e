use Rattle.std.proofs.Common.{◌≡◌, ◌+◌, drop}
use Rattle.ess_values.specs.Places.{place_in}
use Rattle.ess_values.specs.Literals.{pure_fields}
use Rattle.ess_values.proofs.literals.fields.place_of.Given as goal

abbrev pub invariant-loop-i : goal.invariant-loop-i
invariant-loop-i l = place_in l.name (pure_fields l.sorted) ≡ l.i + place_in l.name (pure_fields (drop l.i l.sorted))
