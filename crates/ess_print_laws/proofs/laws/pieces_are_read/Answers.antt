use Rattle.ess_print_laws.proofs.laws.pieces_are_read.Goals as goal
use Rattle.ess_print_laws.proofs.LexedPieces.{printed-tokens, printed-inside}

pub returns : goal.returns
returns c =
    λ ps h. (printed-tokens ps h, printed-inside ps h)
