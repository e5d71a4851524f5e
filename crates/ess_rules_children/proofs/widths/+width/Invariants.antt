use Rattle.std.proofs.Common.{◌≡◌, ◌+◌, map, drop}
use Rattle.ess_semantics.specs.Choice.{reprs_of}
use Rattle.ess_semantics.specs.Representations.{widths}
use Rattle.ess_core.specs.TreeViews.{pure_repr}
use Rattle.ess_rules_children.proofs.widths.+width.Given as goal

abbrev pub invariant-widths-loop-repr : goal.invariant-widths-loop-repr
invariant-widths-loop-repr l = l.total + widths (reprs_of (map pure_repr (drop l.repr-index l.reprs))) ≡ widths
    (reprs_of (map pure_repr l.reprs))
