use Rattle.std.proofs.Common.{◌≡◌, drop}
use Rattle.ess_eval_domains.specs.ClosedViews.{pure_closeds}
use Rattle.ess_domains_cells.specs.Kept.{kept, greater}
use Rattle.ess_domains_cells.specs.LayerCounts.{longest_members}
use Rattle.ess_domains_cells.proofs.shapes.longest_members.Given as goal

abbrev pub invariant-loop-domain : goal.invariant-loop-domain
invariant-loop-domain l =
    greater l.longest (kept (longest_members (pure_closeds (drop l.domain-index l.domains)))) ≡ kept (longest_members (pure_closeds l.domains))
