use Rattle.ess_print_laws.proofs.laws.statements_are_read.Goals as goal
use Rattle.std.proofs.Common.{refl, []}
use Rattle.ess_print_laws.specs.Statements.{stm_pieces}
use Rattle.ess_print_laws.proofs.LexedPieces.{printed-tokens, printed-inside}
use Rattle.ess_print_laws.proofs.SafeTrees.{stm-safe}
use Rattle.ess_print_laws.proofs.Statements.{stm-derived, stm-specification}

pub returns : goal.returns
returns c =
    λ t h.
    let s = (stm-safe t h).law [] refl tt in
    ((_, printed-tokens (stm_pieces t []) s, (stm-derived t h [], stm-specification t h)), printed-inside (stm_pieces t []) s)
