-- Items with commas between, written from the first to the last.
use Rattle.std.proofs.Common.{◌≡◌, refl, sym, ap, ◌∙◌, ℕ, zero, suc, List, [], ◌∷◌, ◌++◌, codes, ◌+◌, ◌<◌, length, map, drop, get_or, arith}
use Rattle.std.proofs.lemmas.List.{append_assoc, append-nil, at_drop_more}
use Rattle.ess_semantics.specs.Values.{Text}
use Rattle.ess_grammar.specs.ValueTexts.{Run, number_text, runs_text, with_commas}
use Rattle.ess_print_laws.specs.Parts.{comma_before}

-- What is still to be written of a list, where so many items stand before.
abbrev pub behind : ℕ → List Text → Text
behind zero ts = with_commas ts
behind (suc k) [] = []
behind (suc k) (t ∷ ts) = codes ", " ++ with_commas (t ∷ ts)

-- The texts of runs.
abbrev pub run_texts : List Run → List Text
run_texts [] = []
run_texts (r ∷ rs) = (number_text r.0 ++ codes ".." ++ number_text r.1) ∷ run_texts rs

pub commas_more : (t : Text) (ts : List Text) → with_commas (t ∷ ts) ≡ t ++ behind 1 ts
commas_more t [] = sym (append-nil t)
commas_more t (u ∷ us) = append_assoc t (codes ", ") (with_commas (u ∷ us))

behind_more : (k : ℕ) (t : Text) (ts : List Text) → behind k (t ∷ ts) ≡ comma_before k ++ (t ++ behind 1 ts)
behind_more zero t ts = commas_more t ts
behind_more (suc k) t ts = ap (λ w. codes ", " ++ w) (commas_more t ts)

behind_one : (k : ℕ) (ts : List Text) → behind (suc k) ts ≡ behind 1 ts
behind_one k [] = refl
behind_one k (t ∷ ts) = refl

pub comma_step : (out t : Text) (k : ℕ) (ts : List Text) → (out ++ comma_before k ++ t) ++ behind (suc k) ts ≡ out ++ behind k (t ∷ ts)
comma_step out t k ts =
    append_assoc (out ++ comma_before k) t (behind (suc k) ts)
    ∙ append_assoc out (comma_before k) (t ++ behind (suc k) ts)
    ∙ ap (λ w. out ++ (comma_before k ++ (t ++ w))) (behind_one k ts)
    ∙ ap (λ w. out ++ w) (sym (behind_more k t ts))

-- one more item is written
pub items_step : {A B : Type 0} (f : B → Text) (g : A → B) (xs : List A) (k : ℕ) (x : A) (out mid new : Text) → k < length xs → x ≡ get_or xs k x → mid ≡ out ++ comma_before k → new ≡ mid ++ f (g x)
    → new ++ behind (k + 1) (map f (map g (drop (k + 1) xs))) ≡ out ++ behind k (map f (map g (drop k xs)))
items_step f g xs k x out mid new lt is first second =
    let next : k + 1 ≡ suc k = omega arith in
    ap (λ w. w ++ behind (k + 1) (map f (map g (drop (k + 1) xs)))) (second ∙ ap (λ w. w ++ f (g x)) first)
    ∙ ap (λ j. (out ++ comma_before k ++ f (g x)) ++ behind j (map f (map g (drop (k + 1) xs)))) next
    ∙ comma_step out (f (g x)) k (map f (map g (drop (k + 1) xs)))
    ∙ ap (λ y. out ++ behind k (map f (map g (y ∷ drop (k + 1) xs)))) is
    ∙ sym (at_drop_more (λ ys. out ++ behind k (map f (map g ys))) xs k x lt)

pub runs_with_commas : (rs : List Run) → with_commas (run_texts rs) ≡ runs_text rs
runs_with_commas [] = refl
runs_with_commas (r ∷ []) = refl
runs_with_commas (r ∷ s ∷ rs) = ap (λ w. number_text r.0 ++ codes ".." ++ number_text r.1 ++ codes ", " ++ w) (runs_with_commas (s ∷ rs))
