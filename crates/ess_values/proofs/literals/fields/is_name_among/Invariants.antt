use Rattle.std.proofs.Common.{◌≡◌, drop}
use Rattle.ess_semantics.specs.Names.{keys, is_among}
use Rattle.ess_values.specs.Literals.{pure_fields}
use Rattle.ess_values.proofs.literals.fields.is_name_among.Given as goal

abbrev pub invariant-loop-field : goal.invariant-loop-field
invariant-loop-field l = is_among (keys (pure_fields l.fields)) l.name ≡ is_among (keys (pure_fields (drop l.field-index l.fields))) l.name
