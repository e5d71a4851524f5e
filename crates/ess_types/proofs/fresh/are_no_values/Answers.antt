use Rattle.ess_types.proofs.ValueNames.{no_values}
use Rattle.ess_types.proofs.fresh.are_no_values.Goals as goal

pub returns : goal.returns
returns c = no_values c.args.unnamed.now c.args.names.now c.in_ok-has_value.field-0 c.in_ok-has_value.ensures
