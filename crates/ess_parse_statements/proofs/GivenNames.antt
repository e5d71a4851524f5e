-- An enumerated type may be given under one name alone.
use Rattle.std.proofs.Common.{◌≡◌, refl, ap, ◌∙◌, true, List, [], ◌∷◌, ◌++◌, None}
use Rattle.ess_semantics.specs.Values.{Text}
use Rattle.ess_semantics.specs.Trees.{Stm}
use Rattle.ess_grammar.specs.Words.{word, new_word}
use Rattle.ess_parse_laws.specs.Reversed.{reverse_list}
use Rattle.ess_parse_laws.specs.Modes.{at_state, given_new_read}
use Rattle.ess_parse_laws.specs.StatementSteps.{step_name_read}
use Rattle.ess_parse_frames.specs.Rows.{back_names}
use Rattle.ess_parse_frames.proofs.RowLaws.{names_none, names_push}

pub new_behind_none : (ss : List Stm) → step_name_read (word new_word) true (back_names []) ss ≡ None
new_behind_none ss = ap (λ ns. step_name_read (word new_word) true ns ss) names_none

pub new_behind_one : (a : Text) (ss : List Stm) → step_name_read (word new_word) true (back_names (a ∷ [])) ss ≡ at_state (given_new_read a ss) []
new_behind_one a ss = ap (λ ns. step_name_read (word new_word) true ns ss) (names_push [] a ∙ ap (λ ns. a ∷ ns) names_none)

reversed-some : (xs : List Text) (x : Text) (before : List Text) → (b : Text) × (bs : List Text) × (reverse_list (x ∷ xs) before ≡ b ∷ bs)
reversed-some [] x before = (x, before, refl)
reversed-some (y ∷ xs) x before = reversed-some xs y (x ∷ before)

some-back : (ns : List Text) → (ns ≡ [] → ⊥) → (b : Text) × (bs : List Text) × (back_names ns ≡ b ∷ bs)
unfolding back_names
some-back [] h = absurd (h refl)
some-back (n ∷ ns) h = reversed-some ns n []

two : (a b : Text) (ns : List Text) (ss : List Stm) → step_name_read (word new_word) true (a ∷ b ∷ ns) ss ≡ None
two a b ns ss = refl

pub new_behind_more : (ns : List Text) (a : Text) (ss : List Stm) → (ns ≡ [] → ⊥) → step_name_read (word new_word) true (back_names (ns ++ a ∷ [])) ss ≡ None
new_behind_more ns a ss h =
    let parts = some-back ns h in
    ap (λ ms. step_name_read (word new_word) true ms ss) (names_push ns a ∙ ap (λ ms. a ∷ ms) parts.2) ∙ two a parts.0 parts.1 ss
