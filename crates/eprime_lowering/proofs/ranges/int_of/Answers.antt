use Rattle.std.proofs.Common.{sym, ◌∙◌}
use Rattle.eprime_lowering.proofs.RangeLaws.{domain_there, domain_none}
use Rattle.eprime_lowering.proofs.ranges.int_of.Goals as goal

pub returns-in-Some : goal.returns-in-Some
returns-in-Some c = λ s. domain_there s c.args.ends.now c.args.bounds c.in-Some.ranges (sym c.in-Some.is ∙ c.in_ok-ranges.ensures)

pub returns-in-None : goal.returns-in-None
returns-in-None c = λ s. domain_none s c.args.ends.now c.args.bounds (sym c.in-None.is ∙ c.in_ok-ranges.ensures)
