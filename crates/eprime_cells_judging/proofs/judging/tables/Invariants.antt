use Rattle.std.proofs.Common.{map}
use Rattle.ess_core.specs.TableViews.{pure_cells, pure_named_table}
use Rattle.eprime_eval.specs.DomainsOf.{given_decls}
use Rattle.eprime_cells_machine.specs.ValueViews.{pure_lettings}
use Rattle.eprime_cells_judging.proofs.Fitting.{Judged}
use Rattle.eprime_cells_judging.proofs.judging.tables.Given as goal

abbrev pub invariant-loop-decl : goal.invariant-loop-decl
invariant-loop-decl l = Judged (given_decls l.known) (pure_cells l.givens) (pure_lettings l.lettings) l.decls l.decl-index (map pure_named_table l.list)
