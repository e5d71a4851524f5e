-- Slots in the order of their cells, padded by slots out of use: the first ones are in use, and they rise.
use Rattle.std.proofs.Common.{◌≡◌, refl, sym, ap, ◌∙◌, ℕ, zero, suc, ◌+◌, Bool, true, false, ◌||◌, not, List, [], ◌∷◌, ◌++◌, map, length, replicate, ℤ, pos, Option, Some, None, is_some, arith, length-append}
use Rattle.std.specs.List.{list_all}
use Rattle.std.specs.Ordering.{is_lt, is_le, ordering_reverse}
use Rattle.std.specs.declared.cmp.Ordering.{Ordering}
use Rattle.std.specs.declared.cmp.Ordering.TheVariants.{Less, Equal, Greater}
use Rattle.ess_semantics.specs.Values.{Value}
use Rattle.ess_semantics.specs.Order.{same}
use Rattle.ess_semantics.specs.Collections.{holds}
use Rattle.ess_semantics.specs.Numbers.{run_from}
use Rattle.ess_semantics.specs.Trees.{Repr}
use Rattle.ess_semantics.specs.Domains.{Domain}
use Rattle.ess_semantics.specs.Cells.{Cells, Axes, behind, rows, order_rows, zero_cells}
use Rattle.ess_semantics.specs.Layers.{Use, Slot, how_many}
use Rattle.ess_semantics.specs.Representations.{is_used, value_of_cells}
use Rattle.ess_semantics.specs.Declarations.{axes_of}
use Rattle.ess_semantics.specs.Canonical.{insert_slot, insert_slot_by, by_cells, somes, cells_or}
use Rattle.ess_semantics.specs.CanonicalTest.{next_slot, in_order}
use Rattle.ess_semantics.proofs.Tests.{and-both, or-yes, or-left-no, or-right-no}
use Rattle.ess_semantics.proofs.Orders.{rows_total, rows_exact, same-itself, same-equal}
use Rattle.ess_semantics.proofs.Sorting.{Distinct}
use Rattle.ess_semantics.proofs.Permutations.{Perm, same_list, skip, swap, chain, holds-perm}
use Rattle.ess_repr_laws.proofs.SlotsUsed.{as_place}
use Rattle.ess_repr_laws.proofs.CanonicalPlaces.{AllOf}
use Rattle.ess_repr_laws.proofs.ExactCells.{exact-rows}
use Rattle.ess_repr_laws.proofs.SideBySide.{Along}
use Rattle.ess_repr_laws.proofs.CellsOfMembers.{GoodSlot, Good, map-long}

-- ---- permutations

-- What holds of each item holds in any order.
pub all-perm : {A : Type 0} {xs ys : List A} (P : A → Type 0) → Perm xs ys → AllOf xs P → AllOf ys P
all-perm P same_list h = h
all-perm P (skip p) h = (h.0, all-perm P p h.1)
all-perm P swap h = (h.1.0, (h.0, h.1.1))
all-perm P (chain p q) h = all-perm P q (all-perm P p h)

-- Images in another order.
pub perm-map : {A B : Type 0} {xs ys : List A} (f : A → B) → Perm xs ys → Perm (map f xs) (map f ys)
perm-map f same_list = same_list
perm-map f (skip p) = skip (perm-map f p)
perm-map f swap = swap
perm-map f (chain p q) = chain (perm-map f p) (perm-map f q)

-- A list in another order is as long.
pub perm-length : {A : Type 0} {xs ys : List A} → Perm xs ys → length xs ≡ length ys
perm-length same_list = refl
perm-length (skip p) = ap suc (perm-length p)
perm-length swap = refl
perm-length (chain p q) = perm-length p ∙ perm-length q

turned : (x y : Value) → same x y ≡ false → same y x ≡ false
turned x y e = go (same y x) refl
  where
    go : (b : Bool) → same y x ≡ b → same y x ≡ false
    go false q = q
    go true q = let z : true ≡ false = sym (same-itself x) ∙ ap (same x) (sym (same-equal y x q)) ∙ e in cc

-- Values that differ do so in any order.
pub perm-distinct : {xs ys : List Value} → Perm xs ys → Distinct xs → Distinct ys
perm-distinct same_list h = h
perm-distinct (skip {x = x} p) h = (sym (holds-perm p x) ∙ h.0, perm-distinct p h.1)
perm-distinct (swap {x = x} {y = y} {xs = xs}) h =
    let a = or-left-no (same y x) (holds xs x) h.0 in
    let b = or-right-no (same y x) (holds xs x) h.0 in
    (ap (λ c. c || holds xs y) (turned y x a) ∙ h.1.0, (b, h.1.1))
perm-distinct (chain p q) h = perm-distinct q (perm-distinct p h)

-- ---- sorted slots

module _ (ass : List Axes) where
  abbrev R : Slot → List (List ℤ)
  R s = rows ass s.1

  insert-perm : (s : Slot) (ts : List Slot) → Perm (s ∷ ts) (insert_slot ass s ts)
  insert-perm s [] = same_list
  insert-perm s (t ∷ ts) = go (order_rows (R s) (R t)) (insert-perm s ts)
    where
      go : (o : Ordering) → Perm (s ∷ ts) (insert_slot ass s ts) → Perm (s ∷ t ∷ ts) (insert_slot_by o s t ts (insert_slot ass s ts))
      go Less p = same_list
      go Equal p = same_list
      go Greater p = chain swap (skip p)

  -- Sorted slots are the slots in another order.
  pub by-perm : (ss : List Slot) → Perm ss (by_cells ass ss)
  by-perm [] = same_list
  by-perm (s ∷ ss) = chain (skip (by-perm ss)) (insert-perm s (by_cells ass ss))

  -- Each slot's cells are not above those of the slot behind it.
  abbrev pub Climbs : List Slot → Type 0
  Climbs [] = Unit {0}
  Climbs (s ∷ []) = Unit {0}
  Climbs (s ∷ t ∷ ts) = (is_le (order_rows (R s) (R t)) ≡ true) × Climbs (t ∷ ts)

  back-le : (s t : Slot) → order_rows (R s) (R t) ≡ Greater → is_le (order_rows (R t) (R s)) ≡ true
  back-le s t e = ap is_le (rows_total.antisymm (R t) (R s) ∙ ap ordering_reverse e)

  insert-climbs : (s : Slot) (ts : List Slot) → Climbs ts → Climbs (insert_slot ass s ts)
  insert-climbs s [] h = tt
  insert-climbs s (t ∷ []) h = go (order_rows (R s) (R t)) refl
    where
      go : (o : Ordering) → order_rows (R s) (R t) ≡ o → Climbs (insert_slot_by o s t [] (s ∷ []))
      go Less e = (ap is_le e, tt)
      go Equal e = (ap is_le e, tt)
      go Greater e = (back-le s t e, tt)
  insert-climbs s (t ∷ u ∷ us) h = go (order_rows (R s) (R t)) refl (insert-climbs s (u ∷ us) h.1)
    where
      second : (o p : Ordering) → order_rows (R s) (R t) ≡ Greater → Climbs (insert_slot_by p s u us (insert_slot ass s us)) → Climbs (t ∷ insert_slot_by p s u us (insert_slot ass s us))
      second o Less e c = (back-le s t e, c)
      second o Equal e c = (back-le s t e, c)
      second o Greater e c = first (insert_slot ass s us) c
        where
          first : (zs : List Slot) → Climbs (u ∷ zs) → Climbs (t ∷ u ∷ zs)
          first zs c = (h.0, c)

      go : (o : Ordering) → order_rows (R s) (R t) ≡ o → Climbs (insert_slot ass s (u ∷ us)) → Climbs (insert_slot_by o s t (u ∷ us) (insert_slot ass s (u ∷ us)))
      go Less e c = (ap is_le e, h)
      go Equal e c = (ap is_le e, h)
      go Greater e c = second Greater (order_rows (R s) (R u)) e c

  -- Sorted slots climb.
  pub by-climbs : (ss : List Slot) → Climbs (by_cells ass ss)
  by-climbs [] = tt
  by-climbs (s ∷ ss) = insert-climbs s (by_cells ass ss) (by-climbs ss)

  -- neighbours stand in order
  abbrev pub Ordered : Bool → List Slot → Type 0
  Ordered b [] = Unit {0}
  Ordered b (s ∷ []) = Unit {0}
  Ordered b (s ∷ t ∷ ts) = (in_order b (R s) (R t) ≡ true) × Ordered b (t ∷ ts)

  -- Where repeats are allowed, that is their order.
  pub ordered-weakly : (ts : List Slot) → Climbs ts → Ordered false ts
  ordered-weakly [] h = tt
  ordered-weakly (s ∷ []) h = tt
  ordered-weakly (s ∷ t ∷ ts) h = (h.0, ordered-weakly (t ∷ ts) h.1)

-- Good slots with one row have one value.
one-value : (r : Repr) (e : Domain) (s t : Slot) → GoodSlot r e s → GoodSlot r e t → order_rows (rows (axes_of r e) s.1) (rows (axes_of r e) t.1) ≡ Equal → s.0 ≡ t.0
one-value r e s t g h q =
    let c = exact-rows (axes_of r e) s.1 t.1 g.0 h.0 (rows_exact (rows (axes_of r e) s.1) (rows (axes_of r e) t.1) q) in
    let w : Some s.0 ≡ Some t.0 = sym g.2 ∙ ap (value_of_cells r e) c ∙ h.2 in cc

-- Slots with different values that climb rise strictly.
pub ordered-sorted_once : (r : Repr) (e : Domain) (ts : List Slot) → AllOf ts (GoodSlot r e) → Distinct (map (λ s. s.0) ts) → Climbs (axes_of r e) ts → Ordered (axes_of r e) true ts
ordered-sorted_once r e [] g d h = tt
ordered-sorted_once r e (s ∷ []) g d h = tt
ordered-sorted_once r e (s ∷ t ∷ ts) g d h = (go (order_rows (rows (axes_of r e) s.1) (rows (axes_of r e) t.1)) refl h.0, ordered-sorted_once r e (t ∷ ts) g.1 d.1 h.1)
  where
    go : (o : Ordering) → order_rows (rows (axes_of r e) s.1) (rows (axes_of r e) t.1) ≡ o → is_le (order_rows (rows (axes_of r e) s.1) (rows (axes_of r e) t.1)) ≡ true → is_lt (order_rows (rows (axes_of r e) s.1) (rows (axes_of r e) t.1)) ≡ true
    go Less q l = ap is_lt q
    go Equal q l =
        let w = one-value r e s t g.0 g.1.0 q in
        let z : true ≡ false = sym (same-itself s.0) ∙ ap (λ y. same y s.0) w ∙ or-left-no (same t.0 s.0) (holds (map (λ s. s.0) ts) s.0) d.0 in cc
    go Greater q l = let z : false ≡ true = ap is_le (sym q) ∙ l in cc

-- ---- padding

-- slots, then as many out of use
abbrev pub padded : ℕ → List Slot → List (Option Slot)
padded j ts = map (λ s. Some s) ts ++ replicate j None

-- The slots that are there.
pub padded-somes : (j : ℕ) (ts : List Slot) → somes (padded j ts) ≡ ts
padded-somes zero [] = refl
padded-somes (suc j) [] = padded-somes j []
padded-somes j (t ∷ ts) = ap (λ l. t ∷ l) (padded-somes j ts)

-- They are so many.
pub padded-many : (j : ℕ) (ts : List Slot) → how_many (padded j ts) ≡ length ts
padded-many zero [] = refl
padded-many (suc j) [] = padded-many j []
padded-many j (t ∷ ts) = ap suc (padded-many j ts)

replicate-length : {A : Type 0} (j : ℕ) (x : A) → length (replicate j x) ≡ j
replicate-length zero x = refl
replicate-length (suc j) x = ap suc (replicate-length j x)

-- All places.
pub padded-length : (j : ℕ) (ts : List Slot) → length (padded j ts) ≡ length ts + j
padded-length j ts =
    let a = length-append (map (λ s. Some s) ts) (replicate j None) in
    let b : length (map (λ s. Some s) ts) ≡ length ts = map-long (λ s. Some s) ts in
    let c : length (replicate {A = Option Slot} j None) ≡ j = replicate-length j None in omega (arith, a, b, c)

-- Slots that are there are good.
pub padded-good : (r : Repr) (e : Domain) (j : ℕ) (ts : List Slot) → AllOf ts (GoodSlot r e) → AllOf (padded j ts) (Good r e)
padded-good r e zero [] h = tt
padded-good r e (suc j) [] h = (tt, padded-good r e j [] h)
padded-good r e j (t ∷ ts) h = (h.0, padded-good r e j ts h.1)

-- ---- slots in use stand first and rise

module _ (u : Use) (own : Cells) where
  -- The place is in use where there is a slot.
  abbrev pub Used : List ℤ → Option Slot → Type 0
  Used p s = is_used u own p ≡ is_some s

  abbrev is_first : List (Option Slot) → Bool
  is_first [] = false
  is_first (s ∷ ss) = is_some s

  none-first : (j : ℕ) → is_first (replicate j None) ≡ false
  none-first zero = refl
  none-first (suc j) = refl

  next-used : (a n : ℕ) (ss : List (Option Slot)) → Along (map as_place (run_from (suc a) n)) ss Used → is_used u own (pos (suc a + n) ∷ []) ≡ false → is_used u own (next_slot (pos a ∷ [])) ≡ is_first ss
  next-used a zero [] h e = let q : a + 1 ≡ suc a + 0 = omega arith in ap (λ k. is_used u own (pos k ∷ [])) q ∙ e
  next-used a zero (s ∷ ss) h e = absurd h
  next-used a (suc n) [] h e = absurd h
  next-used a (suc n) (s ∷ ss) h e = let q : a + 1 ≡ suc a = omega arith in ap (λ k. is_used u own (pos k ∷ [])) q ∙ h.0

  end-next : (a n : ℕ) → is_used u own (pos (a + suc n) ∷ []) ≡ false → is_used u own (pos (suc a + n) ∷ []) ≡ false
  end-next a n e = let q : suc a + n ≡ a + suc n = omega arith in ap (λ k. is_used u own (pos k ∷ [])) q ∙ e

  -- Slots in use stand first.
  pub used-first : (a n j : ℕ) (ts : List Slot) → Along (map as_place (run_from a n)) (padded j ts) Used → is_used u own (pos (a + n) ∷ []) ≡ false →
      list_all (λ js. not (is_used u own (next_slot js)) || is_used u own js) (map as_place (run_from a n)) ≡ true
  used-first a zero j ts h e = refl
  used-first a (suc n) zero [] h e = absurd h
  used-first a (suc n) (suc j) [] h e =
      and-both (not (is_used u own (next_slot (pos a ∷ []))) || is_used u own (pos a ∷ [])) _
      (ap (λ b. not b || is_used u own (pos a ∷ [])) (next-used a n (replicate j None) h.1 (end-next a n e) ∙ none-first j))
      (used-first (suc a) n j [] h.1 (end-next a n e))
  used-first a (suc n) j (t ∷ ts) h e =
      and-both (not (is_used u own (next_slot (pos a ∷ []))) || is_used u own (pos a ∷ [])) _
      (ap (λ b. not (is_used u own (next_slot (pos a ∷ []))) || b) h.0 ∙ or-yes (not (is_used u own (next_slot (pos a ∷ [])))))
      (used-first (suc a) n j ts h.1 (end-next a n e))

  module _ (ass : List Axes) (distinct : Bool) (inner : Cells) where
    -- The place holds the cells of the slot.
    abbrev pub Held : List ℤ → Option Slot → Type 0
    Held p s = (is_used u own p ≡ is_some s) × (behind p inner ≡ cells_or (zero_cells ass) s)

    held-used : (ps : List (List ℤ)) (ss : List (Option Slot)) → Along ps ss Held → Along ps ss Used
    held-used [] [] h = tt
    held-used (p ∷ ps) (s ∷ ss) h = (h.0.0, held-used ps ss h.1)
    held-used [] (s ∷ ss) h = absurd h
    held-used (p ∷ ps) [] h = absurd h

    abbrev step : List ℤ → Bool
    step js = not (is_used u own (next_slot js)) || in_order distinct (rows ass (behind js inner)) (rows ass (behind (next_slot js) inner))

    last : (a n : ℕ) (ss : List (Option Slot)) → Along (map as_place (run_from (suc a) n)) ss Held → is_first ss ≡ false → is_used u own (pos (suc a + n) ∷ []) ≡ false → step (pos a ∷ []) ≡ true
    last a n ss h f e =
        ap (λ b. not b || in_order distinct (rows ass (behind (pos a ∷ []) inner)) (rows ass (behind (next_slot (pos a ∷ [])) inner)))
        (next-used a n ss (held-used (map as_place (run_from (suc a) n)) ss h) e ∙ f)

    -- Slots in use rise.
    pub used-rise : (a n j : ℕ) (ts : List Slot) → Along (map as_place (run_from a n)) (padded j ts) Held → is_used u own (pos (a + n) ∷ []) ≡ false → Ordered ass distinct ts → list_all step (map as_place (run_from a n)) ≡ true
    used-rise a zero j ts h e o = refl
    used-rise a (suc n) zero [] h e o = absurd h
    used-rise a (suc n) (suc j) [] h e o = and-both (step (pos a ∷ [])) _ (last a n (replicate j None) h.1 (none-first j) (end-next a n e)) (used-rise (suc a) n j [] h.1 (end-next a n e) tt)
    used-rise a (suc n) j (t ∷ []) h e o = and-both (step (pos a ∷ [])) _ (last a n (replicate j None) h.1 (none-first j) (end-next a n e)) (used-rise (suc a) n j [] h.1 (end-next a n e) tt)
    used-rise a (suc zero) j (t ∷ t' ∷ ts) h e o = absurd h.1
    used-rise a (suc (suc n)) j (t ∷ t' ∷ ts) h e o =
        and-both (step (pos a ∷ [])) _
        (ap (λ b. not (is_used u own (next_slot (pos a ∷ []))) || b)
        (ap (λ c. in_order distinct (rows ass c) (rows ass (behind (next_slot (pos a ∷ [])) inner))) h.0.1
        ∙ ap (λ k. in_order distinct (rows ass t.1) (rows ass (behind (pos k ∷ []) inner))) (let q : a + 1 ≡ suc a = omega arith in q)
        ∙ ap (λ c. in_order distinct (rows ass t.1) (rows ass c)) h.1.0.1 ∙ o.0)
        ∙ or-yes (not (is_used u own (next_slot (pos a ∷ [])))))
        (used-rise (suc a) (suc n) j (t' ∷ ts) h.1 (end-next a (suc n) e) o.1)
