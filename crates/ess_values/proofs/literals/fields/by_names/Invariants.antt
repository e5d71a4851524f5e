use Rattle.std.proofs.Common.{◌≡◌, length}
use Rattle.ess_semantics.specs.Names.{by_name}
use Rattle.ess_values.specs.Literals.{pure_fields}
use Rattle.ess_values.proofs.FieldLemmas.{all_inserted}
use Rattle.ess_values.proofs.literals.fields.by_names.Given as goal

abbrev pub invariant-loop-field : goal.invariant-loop-field
invariant-loop-field l = all_inserted (pure_fields l.fields) (pure_fields l.sorted) ≡ by_name (pure_fields l.fn.fields)

abbrev pub decreases-loop-field : goal.decreases-loop-field
decreases-loop-field l = length l.fields
