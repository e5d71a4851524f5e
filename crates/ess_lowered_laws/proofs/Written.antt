-- What is written for an expression of a model is one.
use Rattle.std.proofs.Common.{◌≡◌, true, List, []}
use Rattle.ess_semantics.specs.Values.{Text}
use Rattle.ess_semantics.specs.Trees.{Ex}
use Rattle.ess_grammar.specs.Models.{Scope}
use Rattle.ess_simplify_laws.specs.Simplifying.{simplified}
use Rattle.ess_keys_laws.specs.Keyed.{nothing_around, keyed}
use Rattle.eprime_lowering_laws.specs.Lowerable.{is_lowerable}
use Rattle.ess_bare_written_laws.specs.Laws.{as_written}
use Rattle.ess_lowered_laws.proofs.Simplifying.{simplified-kept}
use Rattle.ess_lowered_laws.proofs.Keying.{keyed-kept}
use Rattle.ess_lowered_laws.proofs.Printing.{printed-kept}

-- It is simplified, gets plain keys, is simplified again and printed, and stays an expression of a model on each step.
pub written-kept : (s : Scope) (taken : List Text) (e : Ex) → is_lowerable s e ≡ true → is_lowerable s (as_written taken e) ≡ true
written-kept s taken e h =
    let e1 = simplified e in
    let e2 = keyed nothing_around e1 in
    let e3 = simplified e2 in
    (printed-kept s taken e3 []).whole ((simplified-kept s e2).whole (keyed-kept s e1 ((simplified-kept s e).whole h)))
