use Rattle.std.proofs.Common.{◌≡◌, ◌≤◌, map, drop, length, Some}
use Rattle.ess_semantics.specs.Types.{join_all}
use Rattle.eprime_eval_kinds.specs.KindedViews.{pure_kind}
use Rattle.eprime_eval_kinds.proofs.lists.KindedRow.joined.Given as goal

abbrev pub invariant-loop-left : goal.invariant-loop-left
invariant-loop-left l = record {
  within : l.left ≤ length l.kinds;
  same : Some (pure_kind l.joined)
      ≡ join_all (map pure_kind (drop l.left l.kinds));
}

abbrev pub decreases-loop-left : goal.decreases-loop-left
decreases-loop-left l = l.left
