-- Items at places, each where as many members are below the index as its place says.
use Rattle.std.proofs.Common.{◌≡◌, refl, sym, ap, ◌∙◌, ℕ, zero, suc, ◌+◌, ◌<◌, Bool, true, false, ◌||◌, if◌then◌else◌, List, [], ◌∷◌, ◌++◌, length, pos, ◌+ℤ◌, Option, Some, option_map, arith}
use Rattle.std.proofs.lemmas.Int.{ints}
use Rattle.std.proofs.lemmas.Cmp.{tied_itself}
use Rattle.std.specs.Ordering.{is_lt}
use Rattle.ess_semantics.specs.Lists.{and_then}
use Rattle.ess_semantics.specs.Values.{Value, number, truth, of_list, itself}
use Rattle.ess_semantics.specs.Order.{same, same_int, below}
use Rattle.ess_semantics.specs.Collections.{holds, rises}
use Rattle.ess_semantics.specs.Operators.{sum_of, item_at}
use Rattle.ess_semantics.specs.Meaning.{collect, where_true}
use Rattle.ess_semantics.proofs.Tests.{and-left, and-right, or-yes}
use Rattle.ess_semantics.proofs.Orders.{order_total, same-equal, same-itself, same_int-equal}
use Rattle.ess_semantics.proofs.Sorting.{below-less, less-below}
use Rattle.ess_rules_laws.specs.Lookups.{found}

no : {A : Type 0} → false ≡ true → A
no h = cc

-- ---- order

below-through : (a b c : Value) → below a b ≡ true → below b c ≡ true → below a c ≡ true
below-through a b c p q = less-below a c (order_total.trans a b c (below-less a b p) (below-less b c q))

never-below-itself : (v : Value) → below v v ≡ false
never-below-itself v = ap is_lt (tied_itself order_total v)

-- The first of a list that rises is below all others.
first-below : (u : Value) (us : List Value) → rises itself (u ∷ us) ≡ true → (v : Value) → holds us v ≡ true → below u v ≡ true
first-below u [] r v h = no h
first-below u (y ∷ ys) r v h = go (same y v) refl h (first-below y ys (and-right (below u y) _ r) v)
  where
    go : (b : Bool) → same y v ≡ b → b || holds ys v ≡ true → (holds ys v ≡ true → below y v ≡ true) → below u v ≡ true
    go true e h k = ap (below u) (sym (same-equal y v e)) ∙ and-left (below u y) _ r
    go false e h k = below-through u y v (and-left (below u y) _ r) (k h)

rest-rises : (u : Value) (us : List Value) → rises itself (u ∷ us) ≡ true → rises itself us ≡ true
rest-rises u [] r = refl
rest-rises u (y ∷ ys) r = and-right (below u y) _ r

-- ---- how many are below

-- How many of the values are below w.
abbrev pub below_count : List Value → Value → ℕ
below_count [] w = 0
below_count (u ∷ us) w = if below u w then suc (below_count us w) else below_count us w

-- A 1 for each of them.
abbrev pub ones : List Value → Value → List Value
ones [] w = []
ones (u ∷ us) w = if below u w then number (pos 1) ∷ ones us w else ones us w

-- Their sum.
pub ones-sum : (us : List Value) (w : Value) → sum_of (ones us w) ≡ pos (below_count us w)
ones-sum [] w = refl
ones-sum (u ∷ us) w = go (below u w) (ones-sum us w)
  where
    go : (b : Bool) → sum_of (ones us w) ≡ pos (below_count us w) →
        sum_of (if b then number (pos 1) ∷ ones us w else ones us w) ≡ pos (if b then suc (below_count us w) else below_count us w)
    go true h = ap (λ z. pos 1 +ℤ z) h ∙ (let e : pos 1 +ℤ pos (below_count us w) ≡ pos (suc (below_count us w)) = omega (arith, ints) in e)
    go false h = h

-- What is collected.
pub collect-ones : (w : Value) (G : Value → Option (List Value)) →
    ((u : Value) → G u ≡ where_true (Some (truth (below u w))) (λ z. Some (number (pos 1) ∷ []))) → (us : List Value) →
    collect us G ≡ Some (ones us w)
collect-ones w G h [] = refl
collect-ones w G h (u ∷ us) = ap (λ o. and_then o (λ xs. option_map (λ ys. xs ++ ys) (collect us G))) (h u)
    ∙ go (below u w) (collect-ones w G h us)
  where
    go : (b : Bool) → collect us G ≡ Some (ones us w) →
        and_then (where_true (Some (truth b)) (λ z. Some (number (pos 1) ∷ []))) (λ xs. option_map (λ ys. xs ++ ys) (collect us G)) ≡
        Some (if b then number (pos 1) ∷ ones us w else ones us w)
    go true r = ap (option_map (λ ys. number (pos 1) ∷ ys)) r
    go false r = ap (option_map (λ ys. ys)) r

-- None of those behind an item is below it.
none-below : (u : Value) (us : List Value) → rises itself (u ∷ us) ≡ true → (ys : List Value) →
    ((v : Value) → holds ys v ≡ true → holds us v ≡ true) → below_count ys u ≡ 0
none-below u us r [] s = refl
none-below u us r (y ∷ ys) s = ap (λ b. if b then suc (below_count ys u) else below_count ys u) (go (below y u) refl)
    ∙ none-below u us r ys (λ v h. s v (ap (λ b. same y v || b) h ∙ or-yes (same y v)))
  where
    go : (b : Bool) → below y u ≡ b → b ≡ false
    go true e = no (sym (never-below-itself u)
        ∙ below-through u y u (first-below u us r y (s y (ap (λ b. b || holds ys y) (same-itself y)))) e)
    go false e = refl

-- ---- items at places

-- The item at place n, of those from place k on.
abbrev pub at_place : List Value → ℕ → ℕ → List Value
at_place [] k n = []
at_place (v ∷ vs) k n = (if same_int (pos n) (pos k) then v ∷ [] else []) ++ at_place vs (suc k) n

differ : (n k : ℕ) → (n ≡ k → false ≡ true) → same_int (pos n) (pos k) ≡ false
differ n k h = go (same_int (pos n) (pos k)) refl
  where
    go : (b : Bool) → same_int (pos n) (pos k) ≡ b → b ≡ false
    go true e = no (h (let z : pos n ≡ pos k = same_int-equal (pos n) (pos k) e in cc))
    go false e = refl

none-later : (vs : List Value) (k n : ℕ) → n < k → at_place vs k n ≡ []
none-later [] k n h = refl
none-later (v ∷ vs) k n h = ap (λ b. (if b then v ∷ [] else []) ++ at_place vs (suc k) n) (differ n k (λ e. absurd (omega arith)))
    ∙ none-later vs (suc k) n (omega arith)

same-place : (k : ℕ) → same_int (pos k) (pos k) ≡ true
same-place k = same-itself (number (pos k))

-- In a list that rises the item at an index is that at the place of the index.
pub place-found : (us vs : List Value) (w : Value) → rises itself us ≡ true → length us ≡ length vs → holds us w ≡ true → (k : ℕ) →
    at_place vs k (k + below_count us w) ≡ found (item_at (of_list us) (of_list vs) w)
place-found [] vs w r n h k = no h
place-found (u ∷ us) [] w r n h k = absurd (let z : suc (length us) ≡ zero = n in omega arith)
place-found (u ∷ us) (v ∷ vs) w r n h k = go (same u w) refl h
    (λ z. place-found us vs w (rest-rises u us r) (omega arith) z (suc k))
  where
    go : (b : Bool) → same u w ≡ b → b || holds us w ≡ true →
        (holds us w ≡ true → at_place vs (suc k) (suc k + below_count us w) ≡ found (item_at (of_list us) (of_list vs) w)) →
        at_place (v ∷ vs) k (k + below_count (u ∷ us) w) ≡ found (if b then Some v else item_at (of_list us) (of_list vs) w)
    go true e h f = let q : u ≡ w = same-equal u w e in
        let c : below_count (u ∷ us) w ≡ 0 = ap (below_count (u ∷ us)) (sym q)
        ∙ ap (λ b. if b then suc (below_count us u) else below_count us u) (never-below-itself u)
        ∙ none-below u us r us (λ v h. h) in
        let z : k + below_count (u ∷ us) w ≡ k = ap (λ m. k + m) c ∙ (let y : k + 0 ≡ k = omega arith in y) in
        ap (at_place (v ∷ vs) k) z ∙ ap (λ b. (if b then v ∷ [] else []) ++ at_place vs (suc k) k) (same-place k)
        ∙ ap (λ l. v ∷ l) (none-later vs (suc k) k (omega arith))
    go false e h f = let c : below_count (u ∷ us) w ≡ suc (below_count us w) =
        ap (λ b. if b then suc (below_count us w) else below_count us w) (first-below u us r w h) in
        let z : k + below_count (u ∷ us) w ≡ suc k + below_count us w = omega arith in
        ap (at_place (v ∷ vs) k) z
        ∙ ap (λ b. (if b then v ∷ [] else []) ++ at_place vs (suc k) (suc k + below_count us w))
        (differ (suc k + below_count us w) k (λ e. absurd (omega arith)))
        ∙ f h
