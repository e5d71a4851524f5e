use Rattle.std.proofs.Common.{◌≡◌, drop}
use Rattle.ess_semantics.specs.Names.{keys, all_distinct}
use Rattle.ess_values.specs.Literals.{pure_fields}
use Rattle.ess_values.proofs.literals.fields.are_distinct.Given as goal

abbrev pub invariant-loop-i : goal.invariant-loop-i
invariant-loop-i l = all_distinct (keys (pure_fields l.fields)) ≡ all_distinct (keys (pure_fields (drop l.i l.fields)))
