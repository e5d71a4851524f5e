use Rattle.ess_semantics.specs.Names.{keys}
use Rattle.eprime_cells_machine.specs.ValueViews.{pure_lettings}
use Rattle.eprime_cells_parts.proofs.LookedThrough.{Sought}
use Rattle.eprime_cells_parts.proofs.names.first_missing.Given as goal

abbrev pub invariant-loop-decl : goal.invariant-loop-decl
invariant-loop-decl l = Sought (keys (pure_lettings l.lettings)) l.decls l.decl-index
