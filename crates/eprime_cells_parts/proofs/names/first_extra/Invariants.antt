use Rattle.eprime_cells_parts.proofs.LookedThrough.{Looked}
use Rattle.eprime_cells_parts.proofs.names.first_extra.Given as goal

abbrev pub invariant-loop-index : goal.invariant-loop-index
invariant-loop-index l = Looked l.declared l.lettings l.index
