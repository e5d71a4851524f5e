use Rattle.conjure_cli.proofs.Behind.{given}
use Rattle.conjure_cli.proofs.counting.members_under.Goals as goal

-- src/counting.rt
pub returns-in-Ok : goal.returns-in-Ok
returns-in-Ok c =
    given c.args.number c.args.model.now c.in-Ok.field-0.items c.solved_members.result c.in-Ok.ensures.ok c.solved_members.ensures
