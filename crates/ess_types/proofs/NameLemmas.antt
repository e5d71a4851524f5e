-- Names that stand once, and names that are new.
use Rattle.std.proofs.Common.{◌≡◌, refl, sym, ap, ◌∙◌, ℕ, ◌+◌, ◌<◌, ◌≤◌, Bool, true, false, ◌&&◌, ◌||◌, not, List, [], ◌∷◌, drop, length, get_or}
use Rattle.std.proofs.lemmas.List.{at_drop_more, at_drop_all}
use Rattle.std.specs.List.{list_any}
use Rattle.ess_semantics.specs.Values.{Text}
use Rattle.ess_semantics.specs.Order.{same_text}
use Rattle.ess_semantics.specs.Names.{is_among, all_distinct}
use Rattle.ess_semantics.proofs.Texts.{same_text-either}
use Rattle.ess_types.specs.Fresh.{distinct_behind}

-- ---- names that stand once

among-one_more : (a : Text) (seen ns : List Text) → list_any (is_among (a ∷ seen)) ns ≡ is_among ns a || list_any (is_among seen) ns
among-one_more a seen [] = refl
among-one_more a seen (n ∷ ns) =
    ap (λ b. (same_text a n || is_among seen n) || b) (among-one_more a seen ns)
    ∙ ap (λ b. (b || is_among seen n) || (is_among ns a || list_any (is_among seen) ns)) (same_text-either a n)
    ∙ swap (same_text n a) (is_among seen n) (is_among ns a) (list_any (is_among seen) ns)
  where
    swap : (p q r t : Bool) → (p || q) || (r || t) ≡ (p || r) || (q || t)
    swap true q r t = refl
    swap false true true t = refl
    swap false true false t = refl
    swap false false r t = refl

distinct_behind-both : (seen ns : List Text) → distinct_behind seen ns ≡ all_distinct ns && not (list_any (is_among seen) ns)
distinct_behind-both seen [] = refl
distinct_behind-both seen (a ∷ ns) =
    ap (λ b. not (is_among seen a) && b) (distinct_behind-both (a ∷ seen) ns)
    ∙ ap (λ b. not (is_among seen a) && (all_distinct ns && not b)) (among-one_more a seen ns)
    ∙ swap (is_among seen a) (all_distinct ns) (is_among ns a) (list_any (is_among seen) ns)
  where
    swap : (p q r t : Bool) → not p && (q && not (r || t)) ≡ (not r && q) && not (p || t)
    swap true true true t = refl
    swap true true false t = refl
    swap true false true t = refl
    swap true false false t = refl
    swap false true true t = refl
    swap false true false t = refl
    swap false false true t = refl
    swap false false false t = refl

-- Before the first name none is seen.
pub distinct_none : (ns : List Text) → distinct_behind [] ns ≡ all_distinct ns
distinct_none ns = distinct_behind-both [] ns ∙ go (all_distinct ns) ns
  where
    none : (ns : List Text) → list_any (is_among []) ns ≡ false
    none [] = refl
    none (n ∷ ns) = none ns

    go : (b : Bool) (ns : List Text) → b && not (list_any (is_among []) ns) ≡ b
    go true ns = ap not (none ns)
    go false ns = refl

left : (xs seen : List Text) (i : ℕ) (x : Text) → i < length xs → x ≡ get_or xs i x
    → distinct_behind seen (drop i xs) ≡ not (is_among seen x) && distinct_behind (x ∷ seen) (drop (i + 1) xs)
left xs seen i x h is = at_drop_more (distinct_behind seen) xs i x h ∙ ap (λ y. distinct_behind seen (y ∷ drop (i + 1) xs)) (sym is)

-- From one name to the next.
pub distinct_more : (xs seen : List Text) (i : ℕ) (x : Text) → i < length xs → x ≡ get_or xs i x → is_among seen x ≡ false
    → distinct_behind (x ∷ seen) (drop (i + 1) xs) ≡ distinct_behind seen (drop i xs)
distinct_more xs seen i x h is e = sym (left xs seen i x h is ∙ ap (λ b. not b && distinct_behind (x ∷ seen) (drop (i + 1) xs)) e)

-- A name that was seen.
pub distinct_seen : (xs seen : List Text) (i : ℕ) (x : Text) → i < length xs → x ≡ get_or xs i x → is_among seen x ≡ true
    → false ≡ distinct_behind seen (drop i xs)
distinct_seen xs seen i x h is e = sym (left xs seen i x h is ∙ ap (λ b. not b && distinct_behind (x ∷ seen) (drop (i + 1) xs)) e)

-- Behind the last one.
pub distinct_all : (xs seen : List Text) (i : ℕ) → length xs ≤ i → true ≡ distinct_behind seen (drop i xs)
distinct_all xs seen i h = sym (at_drop_all (distinct_behind seen) xs i h)

-- ---- a test of names, one after another

module _ (p : Text → Bool) where
  pub any_more : (xs : List Text) (i : ℕ) (x : Text) → i < length xs → x ≡ get_or xs i x → p x ≡ false
      → list_any p (drop (i + 1) xs) ≡ list_any p (drop i xs)
  any_more xs i x h is e =
      sym (at_drop_more (list_any p) xs i x h ∙ ap (λ y. p y || list_any p (drop (i + 1) xs)) (sym is)
      ∙ ap (λ b. b || list_any p (drop (i + 1) xs)) e)

  pub any_here : (xs : List Text) (i : ℕ) (x : Text) → i < length xs → x ≡ get_or xs i x → p x ≡ true → true ≡ list_any p (drop i xs)
  any_here xs i x h is e =
      sym (at_drop_more (list_any p) xs i x h ∙ ap (λ y. p y || list_any p (drop (i + 1) xs)) (sym is)
      ∙ ap (λ b. b || list_any p (drop (i + 1) xs)) e)

  pub any_none : (xs : List Text) (i : ℕ) → length xs ≤ i → false ≡ list_any p (drop i xs)
  any_none xs i h = sym (at_drop_all (list_any p) xs i h)

-- Names stand once.
pub ruleset names_stand_once = (distinct_none, distinct_more, distinct_seen, distinct_all)

-- One of the names passes a test.
pub ruleset any_of_names = (any_more, any_here, any_none)
