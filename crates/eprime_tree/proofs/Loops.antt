-- Loops that append one item after the other: how far they have come, and what is left.
use Rattle.std.proofs.Common.{◌≡◌, refl, sym, ap, ◌∙◌, subst, ℕ, zero, suc, ◌+◌, ◌<◌, ◌≤◌, Bool, List, [], ◌∷◌, ◌++◌, map, length, get_or, drop, append_assoc, append-nil, add-one, arith, length-drop}
use Rattle.std.specs.Prelude.{codes}
use Rattle.std.proofs.lemmas.List.{drop_more}
use Rattle.ess_semantics.specs.Values.{Text}
use Rattle.ess_semantics.specs.Trees.{Gens, no_gens}
use Rattle.ess_grammar.specs.Models.{Scope}
use Rattle.ess_print_laws.specs.Pieces.{Piece, text_of, Printer}
use Rattle.ess_print_laws.specs.Parts.{comma_before, comma_space, commas}
use Rattle.ess_print_laws.specs.Brackets.{starts_generator}
use Rattle.ess_print_laws.specs.Expressions.{gens_pieces, before_items}
use Rattle.eprime_tree.specs.declared.expressions.PGen.{PGen}
use Rattle.eprime_tree.specs.Views.{Item, over_item, cond_item, gens_of, pure_gen}
use Rattle.eprime_tree.specs.Written.{gens_written}
use Rattle.eprime_tree.specs.Printed.{Puts, item_pieces, PrintsItem}

-- what is left of a list is its first item and the rest
pub left-more : {A : Type 0} → (xs : List A) (i : ℕ) (x : A) → i < length xs → x ≡ get_or xs i x → drop i xs ≡ x ∷ drop (i + 1) xs
left-more xs i x lt is = drop_more xs i x lt ∙ ap (λ y. y ∷ drop (i + 1) xs) (sym is)

-- or nothing
pub left-none : {A : Type 0} → (xs : List A) (i : ℕ) → length xs ≤ i → drop i xs ≡ []
left-none {A = A} xs i h = none (drop i xs) (omega (arith, length-drop i xs))
  where
    none : (ys : List A) → length ys ≡ 0 → ys ≡ []
    none [] k = refl
    none (y ∷ ys) k = absurd (omega arith)

-- ---- items with commas between

-- What is left of them behind the first i.
abbrev pub commas_from : ℕ → List Printer → Printer
commas_from zero ps us = commas ps us
commas_from (suc i) [] us = us
commas_from (suc i) (p ∷ ps) us = comma_space (commas (p ∷ ps) us)

first-comma : (now mid : Text) (i : ℕ) (p : Printer) (ps : List Printer) (us : List Piece) → mid ≡ now ++ comma_before i →
    mid ++ text_of (commas (p ∷ ps) us) ≡ now ++ text_of (commas_from i (p ∷ ps) us)
first-comma now mid zero p ps us h = ap (λ x. x ++ text_of (commas (p ∷ ps) us)) (h ∙ append-nil now)
first-comma now mid (suc i) p ps us h = ap (λ x. x ++ text_of (commas (p ∷ ps) us)) h ∙ append_assoc now (codes ", ") (text_of (commas (p ∷ ps) us))

first-item : (i : ℕ) (p : Printer) (ps : List Printer) (us : List Piece) → commas (p ∷ ps) us ≡ p (commas_from (suc i) ps us)
first-item i p [] us = refl
first-item i p (q ∷ ps) us = refl

no-items : (i : ℕ) (us : List Piece) → commas_from i [] us ≡ us
no-items zero us = refl
no-items (suc i) us = refl

-- The first i of xs are appended.
abbrev pub Listed : {A : Type 0} → (Scope → A → Printer) → Text → Text → ℕ → List A → Type 0
Listed f before now i xs = (s : Scope) (us : List Piece) → now ++ text_of (commas_from i (map (f s) (drop i xs)) us) ≡ before ++ text_of (commas (map (f s) xs) us)

pub listed-none : {A : Type 0} → (f : Scope → A → Printer) (before : Text) (xs : List A) → Listed f before before 0 xs
listed-none f before xs s us = refl

pub listed-more : {A : Type 0} → (f : Scope → A → Printer) (before now mid after : Text) (i : ℕ) (xs : List A) (x : A) →
    Listed f before now i xs → i < length xs → x ≡ get_or xs i x → mid ≡ now ++ comma_before i → ((s : Scope) → Puts mid after (f s x)) → Listed f before after (i + 1) xs
listed-more f before now mid after i xs x l lt is h p s us =
    ap (λ j. after ++ text_of (commas_from j (map (f s) (drop (i + 1) xs)) us)) (add-one i)
    ∙ p s (commas_from (suc i) (map (f s) (drop (i + 1) xs)) us)
    ∙ ap (λ vs. mid ++ text_of vs) (sym (first-item i (f s x) (map (f s) (drop (i + 1) xs)) us))
    ∙ first-comma now mid i (f s x) (map (f s) (drop (i + 1) xs)) us h
    ∙ ap (λ ys. now ++ text_of (commas_from i (map (f s) ys) us)) (sym (left-more xs i x lt is))
    ∙ l s us

pub listed-all : {A : Type 0} → (f : Scope → A → Printer) (before now : Text) (i : ℕ) (xs : List A) → Listed f before now i xs → length xs ≤ i → (s : Scope) → Puts before now (commas (map (f s) xs))
listed-all f before now i xs l ge s us =
    ap (λ vs. now ++ text_of vs) (sym (no-items i us)) ∙ ap (λ ys. now ++ text_of (commas_from i (map (f s) ys) us)) (sym (left-none xs i ge)) ∙ l s us

-- ---- generators and conditions

-- The tree as it is read of items where earlier lines declare s.
abbrev pub read_gens : Scope → List PGen → Gens
read_gens s gs = gens_written (gens_of (map (pure_gen s) gs))

-- What is left of them behind the first i.
abbrev pub gens_from : ℕ → Gens → Printer
gens_from zero gs us = gens_pieces gs us
gens_from (suc i) gs us = before_items gs (gens_pieces gs us)

abbrev read_items : List Item → Gens
read_items ys = gens_written (gens_of ys)

first-gen-comma : (now mid : Text) (i : ℕ) (y : Item) (ys : List Item) (us : List Piece) → mid ≡ now ++ comma_before i →
    mid ++ text_of (gens_pieces (read_items (y ∷ ys)) us) ≡ now ++ text_of (gens_from i (read_items (y ∷ ys)) us)
first-gen-comma now mid zero y ys us h = ap (λ x. x ++ text_of (gens_pieces (read_items (y ∷ ys)) us)) (h ∙ append-nil now)
first-gen-comma now mid (suc i) (over_item a d) ys us h =
    ap (λ x. x ++ text_of (gens_pieces (read_items (over_item a d ∷ ys)) us)) h ∙ append_assoc now (codes ", ") (text_of (gens_pieces (read_items (over_item a d ∷ ys)) us))
first-gen-comma now mid (suc i) (cond_item e) ys us h =
    ap (λ x. x ++ text_of (gens_pieces (read_items (cond_item e ∷ ys)) us)) h ∙ append_assoc now (codes ", ") (text_of (gens_pieces (read_items (cond_item e ∷ ys)) us))

first-gen : (i : ℕ) (y : Item) (ys : List Item) (us : List Piece) → gens_pieces (read_items (y ∷ ys)) us ≡ item_pieces (starts_generator (read_items ys)) y (gens_from (suc i) (read_items ys) us)
first-gen i (over_item a d) ys us = refl
first-gen i (cond_item e) ys us = refl

no-gens : (i : ℕ) (us : List Piece) → gens_from i no_gens us ≡ us
no-gens zero us = refl
no-gens (suc i) us = refl

-- The first i of xs are appended.
abbrev pub GensListed : Text → Text → ℕ → List PGen → Type 0
GensListed before now i xs = (s : Scope) (us : List Piece) → now ++ text_of (gens_from i (read_gens s (drop i xs)) us) ≡ before ++ text_of (gens_pieces (read_gens s xs) us)

pub gens_listed-none : (before : Text) (xs : List PGen) → GensListed before before 0 xs
gens_listed-none before xs s us = refl

puts-item : (t0 t1 : Text) (b c : Bool) (x : PGen) (s : Scope) → PrintsItem t0 t1 b x → b ≡ c → Puts t0 t1 (item_pieces c (pure_gen s x))
unfolding PrintsItem
puts-item t0 t1 b c x s p h = subst (λ b. Puts t0 t1 (item_pieces b (pure_gen s x))) h (p s)

pub gens_listed-more : (before now mid after : Text) (i : ℕ) (xs : List PGen) (x : PGen) (b : Bool) → GensListed before now i xs → i < length xs → x ≡ get_or xs i x → mid ≡ now ++ comma_before i →
    ((s : Scope) → b ≡ starts_generator (read_gens s (drop (i + 1) xs))) → PrintsItem mid after b x → GensListed before after (i + 1) xs
gens_listed-more before now mid after i xs x b l lt is h hb p s us =
    let ys = map (pure_gen s) (drop (i + 1) xs) in
    ap (λ j. after ++ text_of (gens_from j (read_items ys) us)) (add-one i)
    ∙ puts-item mid after b (starts_generator (read_items ys)) x s p (hb s) (gens_from (suc i) (read_items ys) us)
    ∙ ap (λ vs. mid ++ text_of vs) (sym (first-gen i (pure_gen s x) ys us))
    ∙ first-gen-comma now mid i (pure_gen s x) ys us h
    ∙ ap (λ zs. now ++ text_of (gens_from i (read_gens s zs) us)) (sym (left-more xs i x lt is))
    ∙ l s us

pub gens_listed-all : (before now : Text) (i : ℕ) (xs : List PGen) → GensListed before now i xs → length xs ≤ i → (s : Scope) → Puts before now (gens_pieces (read_gens s xs))
gens_listed-all before now i xs l ge s us =
    ap (λ vs. now ++ text_of vs) (sym (no-gens i us)) ∙ ap (λ zs. now ++ text_of (gens_from i (read_gens s zs) us)) (sym (left-none xs i ge)) ∙ l s us
