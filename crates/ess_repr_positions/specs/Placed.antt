-- Parts of values and of domains with positions in place of the values of named types.
use Rattle.ess_semantics.specs.Values.{Text, Value}
use Rattle.ess_semantics.specs.Domains.{Domain}
use Rattle.ess_semantics.specs.Positions.{with_positions, domain_with_positions}
use Rattle.ess_core.specs.declared.values.Val.{Val}
use Rattle.ess_core.specs.declared.values.FieldVal.{FieldVal}
use Rattle.ess_core.specs.declared.values.Pair.{Pair}
use Rattle.ess_core.specs.ValueViews.{pure_val, pure_field_val, pure_pair}
use Rattle.ess_eval_domains.specs.declared.closed.Closed.{Closed}
use Rattle.ess_eval_domains.specs.declared.closed.FieldClosed.{FieldClosed}
use Rattle.ess_eval_domains.specs.ClosedViews.{pure_closed, pure_field_closed}

-- A value.
abbrev pub placed_val : Val → Value
placed_val v = with_positions (pure_val v)

-- A field, with its value's positions.
abbrev pub placed_field : FieldVal → Text × Value
placed_field f = ((pure_field_val f).0, with_positions (pure_field_val f).1)

-- A pair.
abbrev pub placed_pair : Pair → Value
placed_pair p = with_positions (pure_pair p)

-- A domain.
abbrev pub placed_closed : Closed → Domain
placed_closed d = domain_with_positions (pure_closed d)

-- A field, with its domain's positions.
abbrev pub placed_field_closed : FieldClosed → Text × Domain
placed_field_closed f = ((pure_field_closed f).0, domain_with_positions (pure_field_closed f).1)
