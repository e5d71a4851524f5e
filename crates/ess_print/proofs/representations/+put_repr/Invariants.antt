use Rattle.std.proofs.Common.{drop}
use Rattle.ess_print_laws.specs.Parts.{comma_space}
use Rattle.ess_print.proofs.Writing.{Writing}
use Rattle.ess_print.proofs.Items.{reprs_printers}
use Rattle.ess_print.proofs.representations.+put_repr.Given as goal

abbrev pub invariant-put_children-loop-index : goal.invariant-put_children-loop-index
invariant-put_children-loop-index l = Writing comma_space l.initial.out l.out l.index (reprs_printers l.reprs) (reprs_printers (drop l.index l.reprs))
