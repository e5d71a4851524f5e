use Rattle.std.proofs.Common.{◌∙◌}
use Rattle.eprime_cells_machine.proofs.StateSteps.{low_other}
use Rattle.eprime_cells_machine.proofs.ranges.low_read.Goals as goal

pub returns-in_ok-with_number-in_default : goal.returns-in_ok-with_number-in_default
returns-in_ok-with_number-in_default c bytes a cs fs =
    low_other c.args.kind bytes a cs fs c.args.ranges c.in_ok-with_number-in_default.field-0 c.args.low c.in_default.not-Dots
    c.in_ok-with_number-in_default.ensures.ends c.in_ok-with_number-in_default.ensures.bounds
    ∙ c.behind_range.ensures bytes a cs fs
