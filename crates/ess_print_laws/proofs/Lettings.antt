-- The text of a letting: the expression's own text behind the words, and what it is read as.
use Rattle.std.proofs.Common.{◌≡◌, refl, sym, ap, subst, true, [], ◌∷◌, ◌++◌, codes, append_assoc}
use Rattle.ess_semantics.specs.Values.{Text}
use Rattle.ess_semantics.specs.Trees.{Ex, Stm, let_ex}
use Rattle.ess_grammar.specs.Statements.{IsLettingsFile}
use Rattle.ess_grammar.specs.Readable.{is_plain_letting, ReadableEx, ReadableStm}
use Rattle.ess_print_laws.specs.Texts.{ex_text, stm_text}
use Rattle.ess_print_laws.specs.Statements.{stm_pieces}
use Rattle.ess_print_laws.specs.Laws.{ReadsInSubset, letting_of, IsLettingOf}
use Rattle.ess_print_laws.proofs.LexedPieces.{printed-tokens, printed-inside}
use Rattle.ess_print_laws.proofs.SafeTrees.{stm-safe}
use Rattle.ess_print_laws.proofs.Statements.{stm-file}

-- The text of a letting of a value is what stands before it, and the value's own text.
letting-text : (a : Text) (e : Ex) → stm_text (let_ex a e) ≡ letting_of a ++ ex_text e
letting-text a e = ap (λ t. codes "letting " ++ t) (sym (append_assoc a (codes " be ") (ex_text e)))

-- A letting's text is a file of lettings with it alone.
pub letting-read : (s : Stm) → is_plain_letting s ≡ true → ReadableStm s → ReadsInSubset (stm_text s) (IsLettingsFile (s ∷ []))
letting-read s p h =
    let k = (stm-safe s h).law [] refl tt in
    ((_, printed-tokens (stm_pieces s []) k, stm-file s p h), printed-inside (stm_pieces s []) k)

-- So is an expression's text behind `letting NAME be `.
pub expression-letting : (e : Ex) → ReadableEx e → IsLettingOf e (ex_text e)
expression-letting e h a n = subst (λ t. ReadsInSubset t (IsLettingsFile (let_ex a e ∷ []))) (letting-text a e) (letting-read (let_ex a e) refl (n, h))
