use Rattle.std.proofs.Common.{◌≡◌, map, drop}
use Rattle.ess_semantics.specs.Values.{of_list}
use Rattle.ess_semantics.specs.Names.{keys}
use Rattle.ess_semantics.specs.Operators.{field_at}
use Rattle.ess_core.specs.ValueViews.{pure_field_val}
use Rattle.ess_eval_operators.proofs.indices.field_at.Given as goal

abbrev pub invariant-loop-field : goal.invariant-loop-field
invariant-loop-field l = field_at (keys (map pure_field_val l.fields)) (of_list (map (λ f. f.1) (map pure_field_val l.fields))) l.name
    ≡ field_at (keys (map pure_field_val (drop l.field-index l.fields)))
    (of_list (map (λ f. f.1) (map pure_field_val (drop l.field-index l.fields)))) l.name
