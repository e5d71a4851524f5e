use Rattle.std.proofs.Common.{drop}
use Rattle.ess_print_laws.specs.Parts.{comma_space}
use Rattle.ess_print.proofs.Writing.{Writing}
use Rattle.ess_print.proofs.Items.{pats_printers}
use Rattle.ess_print.proofs.patterns.+put_pat.Given as goal

abbrev pub invariant-put_pats-loop-index : goal.invariant-put_pats-loop-index
invariant-put_pats-loop-index l = Writing comma_space l.initial.out l.out l.index (pats_printers l.pats) (pats_printers (drop l.index l.pats))
