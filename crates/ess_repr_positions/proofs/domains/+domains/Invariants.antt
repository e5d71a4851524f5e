use Rattle.std.proofs.Common.{◌≡◌, map, take}
use Rattle.ess_eval_domains.specs.ClosedViews.{pure_closed, pure_field_closed}
use Rattle.ess_repr_positions.specs.Placed.{placed_closed, placed_field_closed}
use Rattle.ess_repr_positions.proofs.domains.+domains.Given as goal

abbrev pub invariant-several-loop-domain : goal.invariant-several-loop-domain
invariant-several-loop-domain l = map pure_closed l.all ≡ map placed_closed (take l.domain-index l.domains)

abbrev pub invariant-placed_fields-loop-field : goal.invariant-placed_fields-loop-field
invariant-placed_fields-loop-field l = map pure_field_closed l.all ≡ map placed_field_closed (take l.field-index l.fields)
