use Rattle.ess_core.specs.StatementViews.{pure_stm}
use Rattle.ess_types.proofs.Declaring.{types_added}
use Rattle.ess_types.proofs.entering.enter_types.Goals as goal

pub returns-clause-ok : goal.returns-clause-ok
returns-clause-ok c =
    types_added (pure_stm c.args.put.now) c.args.table.now c.types_after.new.table c.in_ok-types_after.field-0 c.requires.outside
    c.requires.new
    (c.in_ok-types_after.ensures.ok c.requires.outside) c.in_ok-types_after.ensures.standing
