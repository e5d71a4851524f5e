use Rattle.std.proofs.Common.{◌≡◌, map, drop}
use Rattle.std.specs.List.{list_any}
use Rattle.ess_semantics.specs.Membership.{in_span}
use Rattle.ess_eval_domains.specs.ClosedViews.{pure_span}
use Rattle.ess_domains_members.proofs.atoms.in_some_span.Given as goal

abbrev pub invariant-loop-span : goal.invariant-loop-span
invariant-loop-span l = list_any (in_span l.number) (map pure_span l.spans) ≡ list_any (in_span l.number) (map pure_span (drop l.span-index l.spans))
