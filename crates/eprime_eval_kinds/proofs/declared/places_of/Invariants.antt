use Rattle.std.proofs.Common.{take}
use Rattle.eprime_eval_kinds.specs.Places.{Places}
use Rattle.eprime_eval_kinds.proofs.declared.places_of.Given as goal

abbrev pub invariant-loop-place : goal.invariant-loop-place
invariant-loop-place l = Places (take l.place l.shapes) l.places.entries
