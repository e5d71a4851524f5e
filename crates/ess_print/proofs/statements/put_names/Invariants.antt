use Rattle.std.proofs.Common.{drop}
use Rattle.ess_print_laws.specs.Parts.{comma_space, name_printers}
use Rattle.ess_print.proofs.Writing.{Writing}
use Rattle.ess_print.proofs.statements.put_names.Given as goal

abbrev pub invariant-loop-index : goal.invariant-loop-index
invariant-loop-index l = Writing comma_space l.initial.out l.out l.index (name_printers l.names) (name_printers (drop l.index l.names))
