use Rattle.std.proofs.Common.{◌≡◌, map, drop}
use Rattle.ess_core.specs.ValueViews.{pure_val, pure_pair}
use Rattle.ess_core.specs.TreeViews.{pure_pair_ex, pure_field_ex, pure_exs, exs_of}
use Rattle.ess_core.specs.TableViews.{pure_env}
use Rattle.ess_values.specs.Shapes.{pure_shape}
use Rattle.ess_values.specs.TypedLiterals.{typed_literals, typed_fields}
use Rattle.ess_values.specs.Literals.{pure_fields}
use Rattle.ess_values.proofs.Ahead.{ahead, both_ahead}
use Rattle.ess_values.proofs.literals.reading.+literal.Given as goal

abbrev pub invariant-literals-loop-ex : goal.invariant-literals-loop-ex
invariant-literals-loop-ex l =
    both_ahead (map pure_shape l.shapes) (map pure_val l.vals) (typed_literals (pure_exs (drop l.ex-index l.exs)) (pure_env l.env)) ≡ typed_literals (pure_exs l.exs) (pure_env l.env)

abbrev pub invariant-pair_literals-loop-ex : goal.invariant-pair_literals-loop-ex
invariant-pair_literals-loop-ex l =
    both_ahead (map pure_shape l.shapes) (map pure_pair l.pairs) (typed_literals (exs_of (map pure_pair_ex (drop l.ex-index l.exs))) (pure_env l.env)) ≡ typed_literals (exs_of (map pure_pair_ex l.exs)) (pure_env l.env)

abbrev pub invariant-field_literals-loop-ex : goal.invariant-field_literals-loop-ex
invariant-field_literals-loop-ex l =
    ahead (pure_fields l.fields) (typed_fields (map pure_field_ex (drop l.ex-index l.exs)) (pure_env l.env)) ≡ typed_fields (map pure_field_ex l.exs) (pure_env l.env)
