use Rattle.std.proofs.Common.{◌≡◌, drop}
use Rattle.ess_semantics.specs.Names.{all_distinct}
use Rattle.ess_types.specs.Fresh.{distinct_behind}
use Rattle.ess_types.proofs.fresh.stand_once.Given as goal

abbrev pub invariant-loop-name : goal.invariant-loop-name
invariant-loop-name l = distinct_behind l.seen (drop l.name-index l.names) ≡ all_distinct l.names
