-- Names in scope, and how bound names come and go.
use Rattle.std.proofs.Common.{◌≡◌, refl, sym, ap, ◌∙◌, ℕ, ◌+◌, ◌<◌, ◌≤◌, Bool, true, false, ◌||◌, if◌then◌else◌, List, [], ◌∷◌, ◌++◌, drop, take, length, get_or, Some}
use Rattle.std.specs.Prelude.{is_some}
use Rattle.std.specs.List.{list_any}
use Rattle.std.proofs.lemmas.List.{at_drop_more, at_drop_all}
use Rattle.std.proofs.lemmas.List.Folds.{list_any-append}
use Rattle.ess_semantics.specs.Values.{Text}
use Rattle.ess_semantics.specs.Order.{same_text}
use Rattle.ess_semantics.specs.Names.{Names, look, keys, is_among}
use Rattle.ess_types_judging.specs.declared.bounds.Bound.{Bound}
use Rattle.ess_types_judging.specs.Bounds.{drawn, finds_under}

-- ---- names in scope

pub among_append : (xs ys : List Text) (a : Text) → is_among (xs ++ ys) a ≡ is_among xs a || is_among ys a
among_append xs ys a = list_any-append (λ n. same_text n a) xs ys

pub among_three : (xs ys zs : List Text) (a : Text) → is_among (xs ++ ys ++ zs) a ≡ (is_among xs a || is_among ys a) || is_among zs a
among_three xs ys zs a = among_append (xs ++ ys) zs a ∙ ap (λ b. b || is_among zs a) (among_append xs ys a)

among-keys : {A : Type 0} (g : Names A) (a : Text) → is_among (keys g) a ≡ is_some (look g a)
among-keys [] a = refl
among-keys (b ∷ g) a = ap (λ x. same_text b.0 a || x) (among-keys g a) ∙ go (same_text b.0 a)
  where
    go : (c : Bool) → c || is_some (look g a) ≡ is_some (if c then Some b.1 else look g a)
    go true = refl
    go false = refl

pub among_all : {A : Type 0} (g : Names A) (xs ys zs : List Text) (a : Text) →
    is_among (keys g ++ xs ++ ys ++ zs) a ≡ is_some (look g a) || is_among (xs ++ ys ++ zs) a
among_all g xs ys zs a =
    among_append (keys g ++ xs ++ ys) zs a
    ∙ ap (λ b. b || is_among zs a) (among_three (keys g) xs ys a ∙ ap (λ b. (b || is_among xs a) || is_among ys a) (among-keys g a))
    ∙ go (is_some (look g a)) (is_among xs a) (is_among ys a) (is_among zs a)
    ∙ ap (λ b. is_some (look g a) || b) (sym (among_three xs ys zs a))
  where
    go : (b c d e : Bool) → ((b || c) || d) || e ≡ b || ((c || d) || e)
    go true c d e = refl
    go false c d e = refl

-- ---- bound names

pub finds_pushed : (bs : List Bound) (b : Bound) (fs : List Text) →
    finds_under (bs ++ b ∷ []) fs ≡ drawn b.draws b.names (finds_under bs fs)
finds_pushed [] b fs = refl
finds_pushed (c ∷ bs) b fs = finds_pushed bs b (drawn c.draws c.names fs)

pub taken_back : {A : Type 0} (bs : List A) (b : A) → take (length bs) (bs ++ b ∷ []) ≡ bs
taken_back [] b = refl
taken_back (c ∷ bs) b = ap (λ l. c ∷ l) (taken_back bs b)

-- ---- known names

-- Whether one of the names is among these.
abbrev pub any_among : List Text → List Text → Bool
any_among ks ns = list_any (is_among ks) ns

any-first : (ks ns : List Text) (i : ℕ) (n : Text) → i < length ns → n ≡ get_or ns i n →
    any_among ks (drop i ns) ≡ is_among ks n || any_among ks (drop (i + 1) ns)
any-first ks ns i n h is = at_drop_more (any_among ks) ns i n h ∙ ap (λ m. any_among ks (m ∷ drop (i + 1) ns)) (sym is)

pub known_here : (ks ns : List Text) (i : ℕ) (n : Text) → i < length ns → n ≡ get_or ns i n → is_among ks n ≡ true →
    any_among ks (drop i ns) ≡ true
known_here ks ns i n h is e = any-first ks ns i n h is ∙ ap (λ b. b || any_among ks (drop (i + 1) ns)) e

pub known_later : (ks ns : List Text) (i : ℕ) (n : Text) → i < length ns → n ≡ get_or ns i n → is_among ks n ≡ false →
    any_among ks (drop i ns) ≡ any_among ks (drop (i + 1) ns)
known_later ks ns i n h is e = any-first ks ns i n h is ∙ ap (λ b. b || any_among ks (drop (i + 1) ns)) e

pub known_none : (ks ns : List Text) (i : ℕ) → length ns ≤ i → any_among ks (drop i ns) ≡ false
known_none ks ns i h = at_drop_all (any_among ks) ns i h
