use Rattle.std.proofs.Common.{◌≡◌, ◌∷◌}
use Rattle.conjure_options.specs.Pieces.{pieces}
use Rattle.conjure_options.proofs.Cuts.{with_rest, left_pieces, left_length}
use Rattle.conjure_options.proofs.pieces.pieces.Given as goal

abbrev pub invariant-loop-left : goal.invariant-loop-left
invariant-loop-left l = with_rest l.found.items (l.piece ∷ left_pieces l.byte l.left) ≡ pieces l.byte l.text

abbrev pub decreases-loop-left : goal.decreases-loop-left
decreases-loop-left l = left_length l.left
