use Rattle.std.proofs.Common.{◌≡◌, map, drop, Some}
use Rattle.ess_core.specs.ValueViews.{pure_val}
use Rattle.ess_values.proofs.Ahead.{ahead}
use Rattle.ess_domains_members.specs.Leaves.{all_items}
use Rattle.ess_domains_members.proofs.matrices.gather.Given as goal

abbrev pub invariant-loop-val : goal.invariant-loop-val
invariant-loop-val l = all_items (Some (map pure_val l.index)) (map pure_val l.vals)
    ≡ ahead (map pure_val l.all) (all_items (Some (map pure_val l.index)) (map pure_val (drop l.val-index l.vals)))
