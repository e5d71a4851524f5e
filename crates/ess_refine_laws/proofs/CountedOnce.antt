-- Of several lists, each at a value and the values rising, what no list before has is there once.
use Rattle.std.proofs.Common.{◌≡◌, refl, sym, ap, ◌∙◌, zero, ◌+◌, Bool, true, false, ◌&&◌, ◌||◌, not, if◌then◌else◌, List, [], ◌∷◌, ◌++◌, map, filter, Option, Some, None, option_map, arith}
use Rattle.std.specs.Prelude.{is_some}
use Rattle.std.specs.List.{list_all}
use Rattle.ess_semantics.specs.Lists.{and_then, append_all, list_or_none}
use Rattle.ess_semantics.specs.Values.{Value, truth}
use Rattle.ess_semantics.specs.Order.{same, below}
use Rattle.ess_semantics.specs.Collections.{holds, count, sorted_once}
use Rattle.ess_semantics.specs.Meaning.{collect, where_true}
use Rattle.ess_semantics.specs.Contexts.{Each}
use Rattle.ess_semantics.proofs.Orders.{order_total}
use Rattle.ess_semantics.proofs.Sorting.{Rising, Below, below-less, less-below, not-both, not-itself}
use Rattle.ess_semantics.proofs.Repeats.{count-append}
use Rattle.ess_semantics.proofs.Overlaps.{holds-append}
use Rattle.ess_rules_laws.proofs.ListedItems.{count-filter, count-sorted_once}
use Rattle.ess_rules_laws.proofs.Splices.{first-there, rest-there}

-- ---- tests

-- That a value is none of a list.
pub none-held : (xs : List Value) (u : Value) → list_all (λ t. not (same t u)) xs ≡ not (holds xs u)
none-held [] u = refl
none-held (x ∷ xs) u = ap (λ b. not (same x u) && b) (none-held xs u) ∙ go (same x u) (holds xs u)
  where
    go : (a b : Bool) → not a && not b ≡ not (a || b)
    go true b = refl
    go false b = refl

-- A test that can't be true isn't.
not-so : (b : Bool) → (b ≡ true → ⊥) → b ≡ false
not-so true h = absurd (h refl)
not-so false h = refl

-- ---- values before one

-- Nothing is below the first of rising values.
none-below : (v : Value) (vs : List Value) → Below order_total v vs → filter (λ s. below s v) vs ≡ []
none-below v [] b = refl
none-below v (w ∷ ws) b =
    ap (λ c. if c then w ∷ filter (λ s. below s v) ws else filter (λ s. below s v) ws)
    (not-so (below w v) (λ e. not-both order_total v w b.0 (below-less w v e))) ∙ none-below v ws b.1

first-below : (v : Value) (vs : List Value) → Below order_total v vs → filter (λ s. below s v) (v ∷ vs) ≡ []
first-below v vs b =
    ap (λ c. if c then v ∷ filter (λ s. below s v) vs else filter (λ s. below s v) vs)
    (not-so (below v v) (λ e. not-itself order_total v (below-less v v e))) ∙ none-below v vs b

-- The first is below each of the others.
each-above : (v : Value) (vs : List Value) → Below order_total v vs → Each vs (λ s. below v s ≡ true)
each-above v [] b = tt
each-above v (w ∷ ws) b = (less-below v w b.0, each-above v ws b.1)

-- ---- lists one behind the other

module _ (f : Value → List Value) where
  -- The lists of the values, one behind the other.
  abbrev pub all_of : List Value → List Value
  all_of vs = append_all (map f vs)

  -- What the list of v has, once, and neither q nor a list before has it.
  abbrev pub new_of : (Value → Bool) → List Value → Value → List Value
  new_of q vs v = filter (λ u. not (q u || holds (all_of (filter (λ s. below s v) vs)) u)) (sorted_once (f v))

  -- How often it is there.
  new-count : (q : Value → Bool) (vs : List Value) (v t : Value) →
      count (new_of q vs v) t ≡ (if not (q t || holds (all_of (filter (λ s. below s v) vs)) t) then (if holds (f v) t then 1 else 0) else 0)
  new-count q vs v t =
      count-filter (λ u. not (q u || holds (all_of (filter (λ s. below s v) vs)) u)) (sorted_once (f v)) t
      ∙ ap (λ n. if not (q t || holds (all_of (filter (λ s. below s v) vs)) t) then n else 0) (count-sorted_once (f v) t)

  -- With one more value before.
  one-more : (q : Value → Bool) (v w t : Value) (vs : List Value) → below v w ≡ true →
      count (new_of q (v ∷ vs) w) t ≡ count (new_of (λ u. q u || holds (f v) u) vs w) t
  one-more q v w t vs b =
      new-count q (v ∷ vs) w t
      ∙ ap (λ c. if not (q t || holds (all_of (if c then v ∷ filter (λ s. below s w) vs else filter (λ s. below s w) vs)) t)
      then (if holds (f w) t then 1 else 0) else 0) b
      ∙ ap (λ c. if not (q t || c) then (if holds (f w) t then 1 else 0) else 0)
      (holds-append (f v) (all_of (filter (λ s. below s w) vs)) t)
      ∙ ap (λ c. if not c then (if holds (f w) t then 1 else 0) else 0)
      (shift (q t) (holds (f v) t) (holds (all_of (filter (λ s. below s w) vs)) t))
      ∙ sym (new-count (λ u. q u || holds (f v) u) vs w t)
    where
      shift : (a b c : Bool) → a || (b || c) ≡ (a || b) || c
      shift true b c = refl
      shift false b c = refl

  -- Lists with equal counts.
  counts-each : (g h : Value → List Value) (t : Value) (ws : List Value) → Each ws (λ w. count (g w) t ≡ count (h w) t) →
      count (append_all (map g ws)) t ≡ count (append_all (map h ws)) t
  counts-each g h t [] e = refl
  counts-each g h t (w ∷ ws) e =
      let i = count-append (g w) (append_all (map g ws)) t in
      let j = count-append (h w) (append_all (map h ws)) t in
      let k = counts-each g h t ws e.1 in let l = e.0 in omega arith

  each-more : (q : Value → Bool) (v t : Value) (vs ws : List Value) → Each ws (λ w. below v w ≡ true) →
      Each ws (λ w. count (new_of q (v ∷ vs) w) t ≡ count (new_of (λ u. q u || holds (f v) u) vs w) t)
  each-more q v t vs [] e = tt
  each-more q v t vs (w ∷ ws) e = (one-more q v w t vs e.0, each-more q v t vs ws e.1)

  -- Each item that q doesn't have is there once.
  pub once : (q : Value → Bool) (vs : List Value) → Rising order_total vs → (t : Value) →
      count (append_all (map (new_of q vs) vs)) t ≡ (if q t then 0 else (if holds (all_of vs) t then 1 else 0))
  once q [] r t = go (q t)
    where
      go : (b : Bool) → zero ≡ (if b then zero else zero)
      go true = refl
      go false = refl
  once q (v ∷ vs) r t =
      let a = count-append (new_of q (v ∷ vs) v) (append_all (map (new_of q (v ∷ vs)) vs)) t in
      let b = new-count q (v ∷ vs) v t
      ∙ ap (λ l. if not (q t || holds (all_of l) t) then (if holds (f v) t then 1 else 0) else 0) (first-below v vs r.0) in
      let c = counts-each (new_of q (v ∷ vs)) (new_of (λ u. q u || holds (f v) u) vs) t vs
      (each-more q v t vs vs (each-above v vs r.0)) ∙ once (λ u. q u || holds (f v) u) vs r.1 t in
      let d = go (q t) (holds (f v) t) (holds (all_of vs) t) in
      let e = ap (λ z. if q t then 0 else (if z then 1 else 0)) (holds-append (f v) (all_of vs) t) in
      a ∙ ap (λ n. n + count (append_all (map (new_of q (v ∷ vs)) vs)) t) b
      ∙ ap (λ n. (if not (q t || false) then (if holds (f v) t then 1 else 0) else 0) + n) c ∙ d ∙ sym e
    where
      go : (a b c : Bool) → (if not (a || false) then (if b then 1 else 0) else 0) + (if a || b then 0 else (if c then 1 else 0))
          ≡ (if a then 0 else (if b || c then 1 else 0))
      go true b c = refl
      go false true c = refl
      go false false true = refl
      go false false false = refl

-- ---- what is collected

-- A list for each value.
pub collect-is : (vs : List Value) (F : Value → Option (List Value)) (g : Value → List Value) → Each vs (λ v. F v ≡ Some (g v)) →
    collect vs F ≡ Some (append_all (map g vs))
collect-is [] F g h = refl
collect-is (v ∷ vs) F g h =
    ap (λ o. and_then o (λ xs. option_map (λ ys. xs ++ ys) (collect vs F))) h.0
    ∙ ap (option_map (λ ys. g v ++ ys)) (collect-is vs F g h.1)

-- Where all is collected, each list is there.
pub each-collected : (vs : List Value) (F : Value → Option (List Value)) → is_some (collect vs F) ≡ true →
    Each vs (λ v. F v ≡ Some (list_or_none (F v)))
each-collected [] F h = tt
each-collected (v ∷ vs) F h =
    (go (F v) (first-there (F v) (collect vs F) h), each-collected vs F (rest-there (F v) (collect vs F) h))
  where
    go : (o : Option (List Value)) → is_some o ≡ true → o ≡ Some (list_or_none o)
    go None t = cc
    go (Some xs) t = refl

-- The values that pass a test.
pub collect-filtered : (f : Value → Bool) (vs : List Value) (G : Value → Option (List Value)) →
    ((t : Value) → G t ≡ where_true (Some (truth (f t))) (λ k. Some (t ∷ []))) → collect vs G ≡ Some (filter f vs)
collect-filtered f [] G h = refl
collect-filtered f (v ∷ vs) G h =
    ap (λ o. and_then o (λ xs. option_map (λ ys. xs ++ ys) (collect vs G))) (h v) ∙ go (f v) (collect-filtered f vs G h)
  where
    go : (b : Bool) → collect vs G ≡ Some (filter f vs) →
        and_then (where_true (Some (truth b)) (λ k. Some (v ∷ []))) (λ xs. option_map (λ ys. xs ++ ys) (collect vs G))
        ≡ Some (if b then v ∷ filter f vs else filter f vs)
    go true e = ap (option_map (λ ys. v ∷ ys)) e
    go false e = ap (option_map (λ ys. ys)) e

-- What is collected at the values that pass a test.
pub collect-where : (f : Value → Bool) (vs : List Value) (G F : Value → Option (List Value)) →
    ((t : Value) → G t ≡ where_true (Some (truth (f t))) (λ k. F t)) → collect vs G ≡ collect (filter f vs) F
collect-where f [] G F h = refl
collect-where f (v ∷ vs) G F h =
    ap (λ o. and_then o (λ xs. option_map (λ ys. xs ++ ys) (collect vs G))) (h v) ∙ go (f v) (collect-where f vs G F h)
  where
    same-option : (o : Option (List Value)) → option_map (λ ys. ys) o ≡ o
    same-option None = refl
    same-option (Some ys) = refl

    go : (b : Bool) → collect vs G ≡ collect (filter f vs) F →
        and_then (where_true (Some (truth b)) (λ k. F v)) (λ xs. option_map (λ ys. xs ++ ys) (collect vs G))
        ≡ collect (if b then v ∷ filter f vs else filter f vs) F
    go true e = ap (λ c. and_then (F v) (λ xs. option_map (λ ys. xs ++ ys) c)) e
    go false e = ap (option_map (λ ys. ys)) e ∙ same-option (collect (filter f vs) F)

-- What each value has, each that passes a test has.
pub each-filtered : (f : Value → Bool) (vs : List Value) (P : Value → Type 0) → Each vs P → Each (filter f vs) P
each-filtered f [] P e = tt
each-filtered f (v ∷ vs) P e = go (f v) (each-filtered f vs P e.1)
  where
    go : (b : Bool) → Each (filter f vs) P → Each (if b then v ∷ filter f vs else filter f vs) P
    go true h = (e.0, h)
    go false h = h
