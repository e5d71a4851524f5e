use Rattle.std.proofs.Common.{◌≡◌, map, drop}
use Rattle.ess_rules_forms.specs.PureAlternatives.{pure_alternative}
use Rattle.ess_ordered_laws.specs.ToldAxes.{numbers_written}
use Rattle.ess_rules_ordered.proofs.NumberForms.{numbers_before}
use Rattle.ess_rules_ordered.proofs.axes.numbers_written.Given as goal

abbrev pub invariant-loop-one : goal.invariant-loop-one
invariant-loop-one l =
    numbers_before l.all (numbers_written (map pure_alternative (drop l.one-index l.cases)))
    ≡ numbers_written (map pure_alternative l.cases)
