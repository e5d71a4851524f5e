use Rattle.ess_translate_given.proofs.NamedRows.{NamedSoFar}
use Rattle.ess_translate_given.proofs.plan_tables.with_names.Given as goal

abbrev pub invariant-loop-table : goal.invariant-loop-table
invariant-loop-table l = NamedSoFar l.names l.yielded l.rest l.all
