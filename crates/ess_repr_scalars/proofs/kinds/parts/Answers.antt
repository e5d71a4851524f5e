use Rattle.std.proofs.Common.{rules, ◌≡◌, map, option_map}
use Rattle.ess_core.specs.ValueViews.{pure_val}
use Rattle.ess_repr_scalars.proofs.ScalarParts.{at_matrix}
use Rattle.ess_repr_scalars.proofs.kinds.parts.Goals as goal

pub returns-in_ok-matrix_parts-in-Matrix : goal.returns-in_ok-matrix_parts-in-Matrix
returns-in_ok-matrix_parts-in-Matrix c =
    at_matrix c.args.kind (pure_val c.args.value.now) c.in-Matrix.index c.in-Matrix.field-1 c.args.domain.now
    (option_map (map pure_val) c.in_ok-matrix_parts-in-Matrix.field-0) c.in-Matrix.is (search rules)
