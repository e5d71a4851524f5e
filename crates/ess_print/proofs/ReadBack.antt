-- Printed texts are read as what was printed.
use Rattle.std.proofs.Common.{◌≡◌, refl, sym, subst, [], ◌∷◌}
use Rattle.ess_semantics.specs.Values.{Text}
use Rattle.ess_semantics.specs.Trees.{Repr, Stm}
use Rattle.ess_grammar.specs.Statements.{Statement, IsSpecification}
use Rattle.ess_grammar.specs.Representations.{IsRepresentation}
use Rattle.ess_grammar.specs.Readable.{ReadableStm}
use Rattle.ess_print_laws.specs.Statements.{stm_pieces, repr_pieces}
use Rattle.ess_print_laws.specs.Texts.{stm_text, repr_text}
use Rattle.ess_print_laws.specs.Laws.{ReadsInSubset}
use Rattle.ess_print_laws.proofs.LexedPieces.{printed-tokens, printed-inside}
use Rattle.ess_print_laws.proofs.SafeTrees.{stm-safe, repr-safe}
use Rattle.ess_print_laws.proofs.Statements.{stm-derived, stm-specification}
use Rattle.ess_print_laws.proofs.Representations.{repr-derived}
use Rattle.ess_print.specs.Written.{Puts}
use Rattle.ess_print.proofs.Writing.{puts-all}

pub statement-read : (s : Stm) → ReadableStm s → ReadsInSubset (stm_text s) (λ ts. Statement (s ∷ []) ts [] × IsSpecification (s ∷ []) ts)
statement-read s h =
    let k = (stm-safe s h).law [] refl tt in
    ((_, printed-tokens (stm_pieces s []) k, (stm-derived s h [], stm-specification s h)), printed-inside (stm_pieces s []) k)

pub representation-read : (r : Repr) → ReadsInSubset (repr_text r) (IsRepresentation r)
representation-read r =
    let k = (repr-safe r).law [] refl tt in
    ((_, printed-tokens (repr_pieces r []) k, repr-derived r []), printed-inside (repr_pieces r []) k)

-- ---- a text that a printer wrote from its beginning

pub statement-behind-nothing : (s : Stm) {a b : Text} → a ≡ [] → Puts a b (stm_pieces s) → ReadableStm s → ReadsInSubset b (λ ts. Statement (s ∷ []) ts [] × IsSpecification (s ∷ []) ts)
statement-behind-nothing s e p h =
    let P : Text → Type 0 = λ t. ReadsInSubset t (λ ts. Statement (s ∷ []) ts [] × IsSpecification (s ∷ []) ts) in
    subst P (sym (puts-all e p)) (statement-read s h)

pub representation-behind-nothing : (r : Repr) {a b : Text} → a ≡ [] → Puts a b (repr_pieces r) → ReadsInSubset b (IsRepresentation r)
representation-behind-nothing r e p = let P : Text → Type 0 = λ t. ReadsInSubset t (IsRepresentation r) in subst P (sym (puts-all e p)) (representation-read r)
