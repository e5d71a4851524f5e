use Rattle.std.proofs.Common.{◌≡◌, ◌≤◌, None, length, drop}
use Rattle.ess_semantics.specs.Names.{look}
use Rattle.ess_core.specs.TableViews.{pure_bindings}
use Rattle.ess_eval.proofs.risen.newest_flagged.Given as goal

-- No binding from place on has the name.
abbrev pub invariant-newest : goal.invariant-newest
invariant-newest l = record {
  within : l.place ≤ length l.vals;
  none : look (pure_bindings (drop l.place l.vals)) l.name ≡ None;
}

abbrev pub decreases-newest : goal.decreases-newest
decreases-newest l = l.place
