use Rattle.std.proofs.Common.{◌≡◌, map, take}
use Rattle.ess_eval_domains.specs.ClosedViews.{pure_closed}
use Rattle.ess_repr_closed.proofs.ChildRows.{for_field}
use Rattle.ess_repr_closed.proofs.copies.domains_of.Given as goal

abbrev pub invariant-loop-field : goal.invariant-loop-field
invariant-loop-field l = map pure_closed l.copies ≡ map for_field (take l.field-index l.fields)
