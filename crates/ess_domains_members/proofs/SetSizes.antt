-- What the size of a set says of the list that it was made from.
use Rattle.std.proofs.Common.{◌≡◌, ◌≢◌, refl, sym, ap, ◌∙◌, ℕ, suc, ◌≤◌, Bool, true, false, ◌&&◌, ◌||◌, not, List, [], ◌∷◌, ◌++◌, map, length, Option, Some, None, arith}
use Rattle.std.specs.List.{list_all}
use Rattle.std.proofs.lemmas.List.{map-append}
use Rattle.ess_semantics.specs.Values.{Value, itself, items_of, from_of, to_of}
use Rattle.ess_semantics.specs.Order.{same}
use Rattle.ess_semantics.specs.Collections.{holds, set_of, place, sorted_once, rises, no_twice}
use Rattle.ess_semantics.specs.Attributes.{is_injective, is_total, is_surjective}
use Rattle.ess_semantics.proofs.Tests.{and-left, and-right, and-both}
use Rattle.ess_semantics.proofs.Orders.{same-equal, to_list-of_list}
use Rattle.ess_semantics.proofs.Sorting.{Distinct, one-sorted-list, one-set, holds-place, holds-sorted_once, place-rises, sorted_once-rises, place-length, sorted_once-length, distinct-twice, twice-distinct}
use Rattle.ess_core.specs.declared.values.Val.{Val}
use Rattle.ess_core.specs.declared.values.Pair.{Pair}
use Rattle.ess_core.specs.ValueViews.{pure_val, pure_pair}
use Rattle.ess_values.proofs.Repeated.{twice-mapped}

-- ---- one more value

held-or : (xs : List Value) (v w : Value) (b : Bool) → same v w ≡ b → holds xs v ≡ true → b || holds xs w ≡ holds xs w
held-or xs v w true e h = sym (ap (holds xs) (sym (same-equal v w e)) ∙ h)
held-or xs v w false e h = refl

place-held : (v : Value) (xs : List Value) → rises itself xs ≡ true → holds xs v ≡ true → place v xs ≡ xs
place-held v xs r h =
    one-sorted-list (place v xs) xs (place-rises v xs r) r (λ w. holds-place v w xs ∙ held-or xs v w (same v w) refl h)

once-held : (x : Value) (xs : List Value) → holds (sorted_once xs) x ≡ true → length (sorted_once (x ∷ xs)) ≡ length (sorted_once xs)
once-held x xs h = ap length (place-held x (sorted_once xs) (sorted_once-rises xs) h)

once-new : (x : Value) (xs : List Value) → holds (sorted_once xs) x ≡ false → length (sorted_once (x ∷ xs)) ≡ suc (length (sorted_once xs))
once-new x xs h = place-length x (sorted_once xs) h

once-short : (xs : List Value) → length (sorted_once xs) ≤ length xs
once-short [] = omega arith
once-short (x ∷ xs) = go (holds (sorted_once xs) x) refl (once-short xs)
  where
    go : (b : Bool) → holds (sorted_once xs) x ≡ b → length (sorted_once xs) ≤ length xs → length (sorted_once (x ∷ xs)) ≤ suc (length xs)
    go true h s = let e = once-held x xs h in omega (arith, e, s)
    go false h s = let e = once-new x xs h in omega (arith, e, s)

-- ---- a set as long as its list

long-distinct : (xs : List Value) → length (sorted_once xs) ≡ length xs → Distinct xs
long-distinct [] e = tt
long-distinct (x ∷ xs) e = go (holds (sorted_once xs) x) refl (long-distinct xs) e
  where
    go : (b : Bool) → holds (sorted_once xs) x ≡ b → (length (sorted_once xs) ≡ length xs → Distinct xs)
        → length (sorted_once (x ∷ xs)) ≡ suc (length xs) → Distinct (x ∷ xs)
    go true h ih e = let p = once-held x xs h in let s = once-short xs in absurd (omega (arith, p, s, e))
    go false h ih e = let p = once-new x xs h in let q : length (sorted_once xs) ≡ length xs = omega (arith, p, e) in (sym (holds-sorted_once xs x) ∙ h, ih q)

set-size : (xs : List Value) (v : Value) → v ≡ set_of xs → length (items_of v) ≡ length (sorted_once xs)
set-size xs v e = ap (λ w. length (items_of w)) e ∙ ap length (to_list-of_list (sorted_once xs))

mapped-size : (xs : List Val) → length (map pure_val xs) ≡ length xs
mapped-size [] = refl
mapped-size (x ∷ xs) = ap suc (mapped-size xs)

size-of : (xs : List Val) (v : Val) (n : ℕ) → pure_val v ≡ set_of (map pure_val xs) → n ≡ length (items_of (pure_val v)) → n ≡ length (sorted_once (map pure_val xs))
size-of xs v n p q = q ∙ set-size (map pure_val xs) (pure_val v) p

pub differ_so : (xs : List Val) (v : Val) (n : ℕ) → pure_val v ≡ set_of (map pure_val xs) → n ≡ length (items_of (pure_val v)) → n ≡ length xs
    → true ≡ no_twice itself (map pure_val xs)
differ_so xs v n p q e =
    sym (distinct-twice (map pure_val xs) (long-distinct (map pure_val xs) (sym (size-of xs v n p q) ∙ e ∙ sym (mapped-size xs))))

pub differ_not : (xs : List Val) (v : Val) (n : ℕ) → pure_val v ≡ set_of (map pure_val xs) → n ≡ length (items_of (pure_val v)) → n ≢ length xs
    → false ≡ no_twice itself (map pure_val xs)
differ_not xs v n p q e = go (no_twice itself (map pure_val xs)) refl
  where
    go : (b : Bool) → no_twice itself (map pure_val xs) ≡ b → false ≡ b
    go true h = absurd (e (size-of xs v n p q ∙ sorted_once-length (map pure_val xs) (twice-distinct (map pure_val xs) h) ∙ mapped-size xs))
    go false h = refl

-- ---- a list put before another, where no value is new

holds-right : (xs ys : List Value) (v : Value) → holds ys v ≡ true → holds (xs ++ ys) v ≡ true
holds-right [] ys v h = h
holds-right (x ∷ xs) ys v h = go (same x v) (holds-right xs ys v h)
  where
    go : (b : Bool) → holds (xs ++ ys) v ≡ true → b || holds (xs ++ ys) v ≡ true
    go true e = refl
    go false e = e

held-behind : (xs ys : List Value) (v : Value) → list_all (holds ys) xs ≡ true → holds (xs ++ ys) v ≡ true → holds ys v ≡ true
held-behind [] ys v a h = h
held-behind (x ∷ xs) ys v a h =
    go (same x v) refl (and-left (holds ys x) (list_all (holds ys) xs) a) (held-behind xs ys v (and-right (holds ys x) (list_all (holds ys) xs) a)) h
  where
    go : (b : Bool) → same x v ≡ b → holds ys x ≡ true → (holds (xs ++ ys) v ≡ true → holds ys v ≡ true) → b || holds (xs ++ ys) v ≡ true → holds ys v ≡ true
    go true e o ih h = ap (holds ys) (sym (same-equal x v e)) ∙ o
    go false e o ih h = ih h

among-same : (xs ys : List Value) → list_all (holds ys) xs ≡ true → length (sorted_once (xs ++ ys)) ≡ length (sorted_once ys)
among-same [] ys h = refl
among-same (x ∷ xs) ys h =
    once-held x (xs ++ ys) (holds-sorted_once (xs ++ ys) x ∙ holds-right xs ys x (and-left (holds ys x) (list_all (holds ys) xs) h))
    ∙ among-same xs ys (and-right (holds ys x) (list_all (holds ys) xs) h)

behind-short : (xs ys : List Value) → length (sorted_once ys) ≤ length (sorted_once (xs ++ ys))
behind-short [] ys = omega arith
behind-short (x ∷ xs) ys = go (holds (sorted_once (xs ++ ys)) x) refl (behind-short xs ys)
  where
    go : (b : Bool) → holds (sorted_once (xs ++ ys)) x ≡ b → length (sorted_once ys) ≤ length (sorted_once (xs ++ ys))
        → length (sorted_once ys) ≤ length (sorted_once (x ∷ xs ++ ys))
    go true h s = let e = once-held x (xs ++ ys) h in omega (arith, e, s)
    go false h s = let e = once-new x (xs ++ ys) h in omega (arith, e, s)

same-among : (xs ys : List Value) → length (sorted_once (xs ++ ys)) ≡ length (sorted_once ys) → list_all (holds ys) xs ≡ true
same-among [] ys e = refl
same-among (x ∷ xs) ys e = go (holds (sorted_once (xs ++ ys)) x) refl (same-among xs ys) e
  where
    go : (b : Bool) → holds (sorted_once (xs ++ ys)) x ≡ b → (length (sorted_once (xs ++ ys)) ≡ length (sorted_once ys) → list_all (holds ys) xs ≡ true)
        → length (sorted_once (x ∷ xs ++ ys)) ≡ length (sorted_once ys) → holds ys x && list_all (holds ys) xs ≡ true
    go true h ih e =
        let all = ih (sym (once-held x (xs ++ ys) h) ∙ e) in
        and-both (holds ys x) (list_all (holds ys) xs) (held-behind xs ys x all (sym (holds-sorted_once (xs ++ ys) x) ∙ h)) all
    go false h ih e = let p = once-new x (xs ++ ys) h in let s = behind-short xs ys in absurd (omega (arith, p, s, e))

sizes-of : (xs ys as' : List Val) (v : Val) (n : ℕ) → as' ≡ xs ++ ys → pure_val v ≡ set_of (map pure_val as') → n ≡ length (items_of (pure_val v))
    → n ≡ length (sorted_once (map pure_val xs ++ map pure_val ys))
sizes-of xs ys as' v n e p q = size-of as' v n p q ∙ ap (λ l. length (sorted_once l)) (ap (map pure_val) e ∙ map-append pure_val xs ys)

pub among_so : (xs ys as' : List Val) (v w : Val) (n m : ℕ) → as' ≡ xs ++ ys → pure_val v ≡ set_of (map pure_val as') → pure_val w ≡ set_of (map pure_val ys)
    → n ≡ length (items_of (pure_val v)) → m ≡ length (items_of (pure_val w)) → n ≡ m → true ≡ list_all (holds (map pure_val ys)) (map pure_val xs)
among_so xs ys as' v w n m i p q a b e =
    sym (same-among (map pure_val xs) (map pure_val ys) (sym (sizes-of xs ys as' v n i p a) ∙ e ∙ size-of ys w m q b))

pub among_not : (xs ys as' : List Val) (v w : Val) (n m : ℕ) → as' ≡ xs ++ ys → pure_val v ≡ set_of (map pure_val as') → pure_val w ≡ set_of (map pure_val ys)
    → n ≡ length (items_of (pure_val v)) → m ≡ length (items_of (pure_val w)) → n ≢ m → false ≡ list_all (holds (map pure_val ys)) (map pure_val xs)
among_not xs ys as' v w n m i p q a b e = go (list_all (holds (map pure_val ys)) (map pure_val xs)) refl
  where
    go : (c : Bool) → list_all (holds (map pure_val ys)) (map pure_val xs) ≡ c → false ≡ c
    go true h = absurd (e (sizes-of xs ys as' v n i p a ∙ among-same (map pure_val xs) (map pure_val ys) h ∙ sym (size-of ys w m q b)))
    go false h = refl

-- ---- the values of pairs

pub injective_told : (ps : List Pair) (vs : List Val) (b : Bool) → map pure_val vs ≡ map to_of (map pure_pair ps) → b ≡ no_twice itself (map pure_val vs)
    → b ≡ is_injective (map pure_pair ps)
injective_told ps vs b p e = e ∙ ap (no_twice itself) p ∙ sym (twice-mapped to_of (map pure_pair ps))

pub total_told : (o : Option (List Value)) (ps : List Pair) (vs ws : List Val) (b : Bool) → Some (map pure_val vs) ≡ o
    → map pure_val ws ≡ map from_of (map pure_pair ps) → b ≡ list_all (holds (map pure_val ws)) (map pure_val vs) → b ≡ is_total o (map pure_pair ps)
total_told o ps vs ws b s p e = e ∙ ap (λ l. list_all (holds l) (map pure_val vs)) p ∙ ap (λ k. is_total k (map pure_pair ps)) s

pub total_none : (o : Option (List Value)) (ps : List Value) → None ≡ o → false ≡ is_total o ps
total_none o ps s = ap (λ k. is_total k ps) s

pub surjective_told : (o : Option (List Value)) (ps : List Pair) (vs ws : List Val) (b : Bool) → Some (map pure_val vs) ≡ o
    → map pure_val ws ≡ map to_of (map pure_pair ps) → b ≡ list_all (holds (map pure_val ws)) (map pure_val vs) → b ≡ is_surjective o (map pure_pair ps)
surjective_told o ps vs ws b s p e = e ∙ ap (λ l. list_all (holds l) (map pure_val vs)) p ∙ ap (λ k. is_surjective k (map pure_pair ps)) s

pub surjective_none : (o : Option (List Value)) (ps : List Value) → None ≡ o → false ≡ is_surjective o ps
surjective_none o ps s = ap (λ k. is_surjective k ps) s
