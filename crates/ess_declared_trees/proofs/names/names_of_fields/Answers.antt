use Rattle.ess_declared_trees.proofs.EndingLaws.{fields_are}
use Rattle.ess_declared_trees.proofs.names.names_of_fields.Goals as goal

pub returns : goal.returns
returns c = fields_are c.in_ok-names.names c.args.fields.now c.in_ok-names.ensures
