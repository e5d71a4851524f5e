use Rattle.ess_kinds_typed_laws.proofs.laws.pick_rules_keep_types.Goals as goal
use Rattle.ess_kinds_typed_laws.proofs.PicksKept.{pick-rules-keep-types}

pub returns : goal.returns
returns c = pick-rules-keep-types
