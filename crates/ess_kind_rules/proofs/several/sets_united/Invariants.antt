use Rattle.std.proofs.Common.{◌≡◌, ◌<◌, length, map, drop}
use Rattle.ess_core_nodes.specs.NodeViews.{pure_node}
use Rattle.ess_open_rules_laws.specs.OpenSources.{sets_united}
use Rattle.ess_rules_forms.specs.PureAlternatives.{pure_alternative}
use Rattle.ess_kind_rules.proofs.several.sets_united.Given as goal

abbrev pub invariant-loop-left : goal.invariant-loop-left
invariant-loop-left l = record {
  within : l.left < length l.found;
  united : pure_node l.all ≡ sets_united (map pure_alternative (drop l.left l.found));
}

abbrev pub decreases-loop-left : goal.decreases-loop-left
decreases-loop-left l = l.left
