use Rattle.ess_print_laws.proofs.laws.domains_are_read.Goals as goal
use Rattle.std.proofs.Common.{refl, []}
use Rattle.ess_print_laws.specs.Expressions.{dom_pieces}
use Rattle.ess_print_laws.proofs.LexedPieces.{printed-tokens, printed-inside}
use Rattle.ess_print_laws.proofs.SafeTrees.{dom-safe}
use Rattle.ess_print_laws.proofs.Expressions.{dom-derived}

pub returns : goal.returns
returns c =
    λ d h.
    let s = (dom-safe d h).law [] refl tt in
    ((_, printed-tokens (dom_pieces d []) s, dom-derived d h []), printed-inside (dom_pieces d []) s)
