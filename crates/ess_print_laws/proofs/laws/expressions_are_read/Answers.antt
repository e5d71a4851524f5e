use Rattle.ess_print_laws.proofs.laws.expressions_are_read.Goals as goal
use Rattle.std.proofs.Common.{refl, []}
use Rattle.ess_print_laws.specs.Expressions.{ex_pieces}
use Rattle.ess_print_laws.proofs.LexedPieces.{printed-tokens, printed-inside}
use Rattle.ess_print_laws.proofs.SafeTrees.{ex-safe}
use Rattle.ess_print_laws.proofs.Expressions.{ex-printed}

pub returns : goal.returns
returns c =
    λ e h.
    let s = (ex-safe e h).law [] refl tt in
    let r = (ex-printed e h).reads [] in
    ((_, printed-tokens (ex_pieces e []) s, (r.shape, r.level, r.derivation)), printed-inside (ex_pieces e []) s)
