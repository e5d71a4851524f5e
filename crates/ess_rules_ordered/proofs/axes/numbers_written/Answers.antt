use Rattle.std.proofs.Common.{map}
use Rattle.ess_rules_forms.specs.PureAlternatives.{pure_alternative}
use Rattle.ess_ordered_laws.specs.ToldAxes.{numbers_written}
use Rattle.ess_rules_ordered.proofs.NumberForms.{numbers_all}
use Rattle.ess_rules_ordered.proofs.axes.numbers_written.Goals as goal

-- All numbers are there.
pub returns : goal.returns
returns c =
    numbers_all c.loop-one.all c.args.cases.now c.loop-one.one-index (numbers_written (map pure_alternative c.args.cases.now))
    c.loop-one-test.false c.loop-one.invariant
