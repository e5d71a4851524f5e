use Rattle.eprime_cells_parts.proofs.Places.{Placed}
use Rattle.eprime_cells_parts.proofs.names.places_of.Given as goal

abbrev pub invariant-loop-place : goal.invariant-loop-place
invariant-loop-place l = Placed l.lettings l.place l.places
