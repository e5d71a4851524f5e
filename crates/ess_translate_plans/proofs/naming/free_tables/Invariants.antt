use Rattle.std.proofs.Common.{◌++◌}
use Rattle.ess_translate_plans_laws.specs.Requests.{declared_beside, left_out}
use Rattle.ess_translate_plans.specs.Trying.{AreTaken}
use Rattle.ess_translate_plans.proofs.naming.free_tables.Given as goal

abbrev pub invariant-loop-avoided : goal.invariant-loop-avoided
invariant-loop-avoided l = AreTaken l.avoided (declared_beside l.all l.own l.declared ++ l.tables)

abbrev pub decreases-loop-avoided : goal.decreases-loop-avoided
decreases-loop-avoided l = left_out (declared_beside l.all l.own l.declared ++ l.tables) l.avoided
