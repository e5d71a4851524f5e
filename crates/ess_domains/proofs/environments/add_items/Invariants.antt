use Rattle.std.proofs.Common.{◌≡◌, ◌++◌, ◌≤◌, suc, drop, length}
use Rattle.ess_semantics.specs.Assignments.{enum_items}
use Rattle.ess_core.specs.TableViews.{pure_bindings}
use Rattle.ess_domains.proofs.environments.add_items.Given as goal

abbrev pub decreases-loop-left : goal.decreases-loop-left
decreases-loop-left l = l.left

abbrev pub invariant-loop-left : goal.invariant-loop-left
invariant-loop-left l = record {
  within : l.left ≤ length l.names;
  so_far : pure_bindings l.vals ≡ enum_items l.name (suc l.left) (drop l.left l.names) ++ pure_bindings l.initial.vals;
}
