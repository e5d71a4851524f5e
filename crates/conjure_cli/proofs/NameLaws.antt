-- Names among names.
use Rattle.std.proofs.Common.{◌≡◌, ℕ, Bool, true, false, cond, ◌||◌, List, [], ◌∷◌, ◌++◌, map, refl, ap, sym, ◌∙◌, Bor, nat_cmp}
use Rattle.std.proofs.Math.Bool.{or_assoc}
use Rattle.std.proofs.lemmas.Map.Text.{is_eq-slice_cmp}
use Rattle.std.specs.BTreeMap.{is_at}
use Rattle.std.specs.Cmp.Lexicographic.{slice_cmp}
use Rattle.std.specs.Prelude.{bytes_eq}
use Rattle.std.specs.List.{list_any}
use Rattle.conjure_cli_laws.specs.Words.{is_among}

-- to look among what references point to is to look among the references
pub among_views : (names : List (Bor (List ℕ))) (name : List ℕ)
    → is_among (map (λ word. word.now) names) name ≡ list_any (λ word. bytes_eq word.now name) names
among_views [] name = refl
among_views (word ∷ names) name = ap (λ b. bytes_eq word.now name || b) (among_views names name)

-- one more name
pub among_more : (names : List (List ℕ)) (last name : List ℕ) → is_among (names ++ last ∷ []) name ≡ (is_among names name || bytes_eq last name)
among_more [] last name = go (bytes_eq last name)
  where
    go : (b : Bool) → (b || false) ≡ b
    go true = refl
    go false = refl
among_more (known ∷ names) last name =
    ap (λ b. bytes_eq known name || b) (among_more names last name) ∙ sym (or_assoc (bytes_eq known name) (is_among names name) (bytes_eq last name))

-- what a set knows after one more name was put in
pub put_in : (key : Bor (List ℕ)) (names : List (List ℕ)) (old : Bool) (name : Bor (List ℕ)) → old ≡ is_among names name.now
    → cond (is_at (λ y. slice_cmp nat_cmp key.now y.now) name) true old ≡ is_among (names ++ key.now ∷ []) name.now
put_in key names old name h =
    ap (λ b. cond b true old) (is_eq-slice_cmp key.now name.now)
    ∙ ap (λ b. cond (bytes_eq key.now name.now) true b) h
    ∙ go (bytes_eq key.now name.now) (is_among names name.now)
    ∙ sym (among_more names key.now name.now)
  where
    go : (a b : Bool) → cond a true b ≡ (b || a)
    go true true = refl
    go true false = refl
    go false true = refl
    go false false = refl
