use Rattle.ess_print_laws.proofs.laws.representations_are_read.Goals as goal
use Rattle.std.proofs.Common.{refl, []}
use Rattle.ess_print_laws.specs.Statements.{repr_pieces}
use Rattle.ess_print_laws.proofs.LexedPieces.{printed-tokens, printed-inside}
use Rattle.ess_print_laws.proofs.SafeTrees.{repr-safe}
use Rattle.ess_print_laws.proofs.Representations.{repr-derived}

pub returns : goal.returns
returns c =
    λ r.
    let s = (repr-safe r).law [] refl tt in
    ((_, printed-tokens (repr_pieces r []) s, repr-derived r []), printed-inside (repr_pieces r []) s)
