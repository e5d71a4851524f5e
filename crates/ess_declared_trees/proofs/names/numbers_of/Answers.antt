use Rattle.ess_declared_trees.proofs.EndingLaws.{numbered_are}
use Rattle.ess_declared_trees.proofs.names.numbers_of.Goals as goal

pub returns : goal.returns
returns c = numbered_are c.in_ok-names.names c.args.parts.now c.in_ok-names.ensures
