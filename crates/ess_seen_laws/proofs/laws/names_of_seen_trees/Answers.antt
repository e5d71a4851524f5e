use Rattle.ess_seen_laws.proofs.Ends.{seen-closed, seen-binds-new}
use Rattle.ess_seen_laws.proofs.laws.names_of_seen_trees.Goals as goal

pub returns : goal.returns
returns c = record { closed = seen-closed; binds_new = seen-binds-new }
