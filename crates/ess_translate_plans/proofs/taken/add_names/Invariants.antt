use Rattle.std.proofs.Common.{drop}
use Rattle.ess_translate_plans.proofs.Turns.{Together, table_texts}
use Rattle.ess_translate_plans.proofs.taken.add_names.Given as goal

abbrev pub invariant-loop-name : goal.invariant-loop-name
invariant-loop-name l = Together (table_texts (drop l.name-index l.names)) l.tables (table_texts l.names) l.fn.tables
