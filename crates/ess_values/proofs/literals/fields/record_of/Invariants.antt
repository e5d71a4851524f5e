use Rattle.std.proofs.Common.{◌≡◌, map}
use Rattle.ess_semantics.specs.Names.{keys}
use Rattle.ess_core.specs.ValueViews.{pure_field_val}
use Rattle.ess_values.specs.Shapes.{pure_shape}
use Rattle.ess_values.specs.Literals.{pure_fields}
use Rattle.ess_values.proofs.literals.fields.record_of.Given as goal

abbrev pub invariant-loop-field : goal.invariant-loop-field
invariant-loop-field l = record {
  names_so_far : l.names ≡ keys (pure_fields l.yielded);
  shapes_so_far : map pure_shape l.shapes ≡ map (λ f. f.1.0) (pure_fields l.yielded);
  vals_so_far : map pure_field_val l.vals ≡ map (λ f. (f.0, f.1.1)) (pure_fields l.yielded);
}
