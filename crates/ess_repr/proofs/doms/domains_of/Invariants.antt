use Rattle.std.proofs.Common.{◌≡◌, map, take}
use Rattle.ess_core.specs.TreeViews.{pure_dom}
use Rattle.ess_repr.proofs.ChildRows.{for_field}
use Rattle.ess_repr.proofs.doms.domains_of.Given as goal

abbrev pub invariant-loop-field : goal.invariant-loop-field
invariant-loop-field l = map pure_dom l.copies ≡ map for_field (take l.field-index l.fields)
