-- Multisets as slots with numbers of times are right over each inner representation that is.
use Rattle.std.proofs.Common.{◌≡◌, sym, ap, ◌∙◌, ℕ, ◌≤◌, true, ◌&&◌, List, [], ◌∷◌, take, length, map, ℤ, pos, Option, Some, option_map, arith, ◌⊎◌, inl, inr}
use Rattle.std.proofs.lemmas.Bool.{cases_lt}
use Rattle.std.specs.List.{list_all}
use Rattle.ess_semantics.specs.declared.words.ReprKind.{ReprKind}
use Rattle.ess_semantics.specs.Lists.{and_then, each_of, is_some_and}
use Rattle.ess_semantics.specs.Values.{Value, to_list, of_list}
use Rattle.ess_semantics.specs.Collections.{count, sorted, mset_of, rises_weakly}
use Rattle.ess_semantics.specs.Numbers.{one_to, not_below_0}
use Rattle.ess_semantics.specs.Trees.{Repr, Reprs, repr, no_reprs, more_reprs}
use Rattle.ess_semantics.specs.Domains.{Attribute, Domain, msets, lists_of}
use Rattle.ess_semantics.specs.Attributes.{mset_attributes_hold}
use Rattle.ess_semantics.specs.Membership.{member}
use Rattle.ess_semantics.specs.Sizes.{slots_of_mset, occurrences}
use Rattle.ess_semantics.specs.Tables.{is_cell}
use Rattle.ess_semantics.specs.Cells.{Grid, Cells, behind, every_cell, row, rows}
use Rattle.ess_semantics.specs.Layers.{Layer, where_counted, up_to, total, repeated, each_repeated, only_child}
use Rattle.ess_semantics.specs.MultisetLayers.{times_hold, counts_hold, mset_flags_layer}
use Rattle.ess_semantics.specs.Representations.{width, value_of_cells}
use Rattle.ess_semantics.specs.Declarations.{axes_of}
use Rattle.ess_semantics.specs.CanonicalTest.{canonical}
use Rattle.ess_semantics.specs.Tidy.{is_orderly, are_orderly, tidy_cells}
use Rattle.ess_repr_laws.specs.CanonicalTables.{Right}
use Rattle.ess_semantics.proofs.Tests.{and-left, and-both, run-length}
use Rattle.ess_semantics.proofs.Orders.{to_list-of_list}
use Rattle.ess_semantics.proofs.Sorting.{Distinct}
use Rattle.ess_repr_laws.proofs.RowsOfCells.{agree-row, axes_of_children, axes-of-layer}
use Rattle.ess_repr_laws.proofs.SlotsUsed.{each-run}
use Rattle.ess_repr_laws.proofs.OneForm.{filled-once, filled-distinct, filled-apart, values-length, each-value, held-value, value-held}
use Rattle.ess_semantics.proofs.Runs.{from_to, from-length}
use Rattle.ess_repr_laws.proofs.CanonicalParts.{Parts, parts-of, value-of-parts, only-child, only-child-rows}
use Rattle.ess_repr_laws.proofs.CanonicalSlots.{Full, slot_at, filled, slots-orderly}
use Rattle.ess_semantics.proofs.Multisets.{count-sorted, sorted-rises, sorted-length, sorted-all, same-members}
use Rattle.ess_semantics.proofs.Repeats.{attributes-of, all-repeated, repeated-length, repeated-times}
use Rattle.ess_repr_laws.proofs.CountedSlots.{Counts, counts-used, each-number, number-row, repeated-first, total-first, all-first, count-at, repeated-holds}

module _ (r : Repr) (e : Domain) (ks : List Attribute) (right : Right r e) where
  abbrev S : ℕ
  S = slots_of_mset ks e

  abbrev child : Reprs
  child = more_reprs r no_reprs

  abbrev flagged : Repr
  flagged = repr ReprKind.MSetExplicitWithFlags child

  abbrev whole : Layer
  whole = mset_flags_layer ks e

  abbrev Slots : Cells → ℕ → List Value → Type 0
  Slots fs n vs = Full r e right S where_counted (slot_at r e right S where_counted (take (width r) fs)) S n vs

  -- what slot k stands for
  abbrev value_at_slot : Cells → ℤ → Option Value
  value_at_slot fs k = value_of_cells r e (behind (k ∷ []) (take (width r) fs))

  record Flagged (f : Grid) (fs : Cells) : Type 0 where
    parts : Parts whole child (f ∷ []) fs
    counts : Counts f S
    vs : List Value
    full : Slots fs counts.n vs
    values : each_of (lists_of (one_to counts.n ∷ [])) (λ j. value_of_cells r e (behind j (take (width r) fs))) ≡ Some vs
    distinct : Distinct vs
    long : length vs ≡ counts.n
    inner : length (take (width r) fs) ≡ length (axes_of r e)
    value : value_of_cells flagged (msets ks e) (f ∷ fs) ≡ Some (mset_of (each_repeated (from_to counts.times 1 counts.n) vs))

  flagged-of : (f : Grid) (fs : Cells) → canonical flagged (msets ks e) (f ∷ fs) ≡ true → Flagged f fs
  flagged-of f fs h =
      let p = parts-of whole child (f ∷ []) fs h in
      let u = counts-used f S (occurrences ks) (and-left (every_cell (one_to S ∷ []) (is_cell (up_to (occurrences ks))) f) true p.fit) p.first in
      let slots = u.slots in
      let cell = u.cell in
      let above = u.above in
      let none = u.none in
      let o = only-child r e whole (f ∷ []) fs p.js p.vss p.inside p.values in
      let js : p.js ≡ lists_of (one_to u.n ∷ []) = let z : Some p.js ≡ Some (lists_of (one_to u.n ∷ [])) = sym p.used ∙ slots.found in cc in
      let q = ap (λ l. each_of l (λ j. value_of_cells r e (behind j (take (width r) fs)))) (sym js) ∙ o.values in
      let full = filled r e right S where_counted (f ∷ []) (take (width r) fs) u.n o.vs slots o.inside q in
      let long : length o.vs ≡ u.n = values-length (value_at_slot fs) (one_to u.n) o.vs full.values ∙ run-length 1 u.n in
      record {
        parts = p;
        counts = u;
        vs = o.vs;
        full = full;
        values = q;
        distinct = filled-distinct (axes_of r e) (canonical r e) (value_of_cells r e) right.sound right.unique (slot_at r e right S where_counted (take (width r) fs)) S u.n o.vs full;
        long = long;
        inner = o.long;
        value = value-of-parts whole child (f ∷ []) fs p
            ∙ ap (λ vss. option_map (λ ns. mset_of (repeated ns (only_child vss))) (each_of (one_to S) (λ k. and_then (f (k ∷ [])) not_below_0))) o.only
            ∙ ap (option_map (λ ns. mset_of (repeated ns o.vs))) (each-number f u.times 1 S (λ k a b. cell k a (omega arith)))
            ∙ ap (λ l. Some (mset_of l)) (repeated-first u.times 1 S u.n o.vs long u.room (λ k a b. above k a (omega arith)) (λ k a b. none k (omega arith) (omega arith)));
      }

  flagged-sound : (c : Cells) → canonical flagged (msets ks e) c ≡ true → (v : Value) × (value_of_cells flagged (msets ks e) c ≡ Some v)
  flagged-sound [] h = cc
  flagged-sound (f ∷ fs) h = let x = flagged-of f fs h in let u = x.counts in (mset_of (each_repeated (from_to u.times 1 u.n) x.vs), x.value)

  flagged-unique : (c c' : Cells) → canonical flagged (msets ks e) c ≡ true → canonical flagged (msets ks e) c' ≡ true →
      value_of_cells flagged (msets ks e) c ≡ value_of_cells flagged (msets ks e) c' → rows (axes_of flagged (msets ks e)) c ≡ rows (axes_of flagged (msets ks e)) c'
  flagged-unique [] c' h h' q = cc
  flagged-unique (f ∷ fs) [] h h' q = cc
  flagged-unique (f ∷ fs) (g ∷ gs) h h' q = go (flagged-of f fs h) (flagged-of g gs h')
    where
      go : Flagged f fs → Flagged g gs → rows (axes_of flagged (msets ks e)) (f ∷ fs) ≡ rows (axes_of flagged (msets ks e)) (g ∷ gs)
      go x y =
          let u = x.counts in
          let v = y.counts in
          let full = x.full in
          let full' = y.full in
          let xs = each_repeated (from_to u.times 1 u.n) x.vs in
          let ys = each_repeated (from_to v.times 1 v.n) y.vs in
          let w : Some (mset_of xs) ≡ Some (mset_of ys) = sym x.value ∙ q ∙ y.value in
          let l : of_list (sorted xs) ≡ of_list (sorted ys) = cc in
          let s : sorted xs ≡ sorted ys = sym (to_list-of_list (sorted xs)) ∙ ap to_list l ∙ to_list-of_list (sorted ys) in
          let counts = λ (w : Value). sym (count-sorted xs w) ∙ ap (λ l. count l w) s ∙ count-sorted ys w in
          let above = u.above in
          let above' = v.above in
          let members = λ (w : Value). sym (repeated-holds u.times 1 u.n x.vs w x.long (λ k a b. above k a (omega arith))) ∙ same-members xs ys counts w ∙ repeated-holds v.times 1 v.n y.vs w y.long (λ k a b. above' k a (omega arith)) in
          let o = filled-once (axes_of r e) (canonical r e) (value_of_cells r e) right.sound right.unique (slot_at r e right S where_counted (take (width r) fs)) (slot_at r e right S where_counted (take (width r) gs)) S u.n v.n x.vs y.vs full full' members in
          let cell = u.cell in
          let cell' = v.cell in
          let none = u.none in
          let none' = v.none in
          let inside = full.inside in
          let inside' = full'.inside in
          let in-use = λ (k : ℕ) (a : 1 ≤ k) (b : k ≤ u.n).
          let z = right.sound (slot_at r e right S where_counted (take (width r) fs) (pos k)) (inside k a b) in
          let m = held-value (value_at_slot gs) 1 v.n y.vs z.0 full'.values (sym (members z.0) ∙ value-held (value_at_slot fs) 1 u.n k x.vs z.0 full.values a (omega arith) z.1) in
          let b' : m.0 ≤ v.n = let t = m.2 in omega arith in
          let rows-same = right.unique (slot_at r e right S where_counted (take (width r) fs) (pos k)) (slot_at r e right S where_counted (take (width r) gs) (pos m.0)) (inside k a b) (inside' m.0 m.1 b') (z.1 ∙ sym m.3) in
          let k' : k ≤ v.n = let t = o.0 in omega arith in
          let same : m.0 ≡ k = filled-apart (axes_of r e) (canonical r e) (value_of_cells r e) right.sound right.unique (slot_at r e right S where_counted (take (width r) gs)) S v.n y.vs full' m.0 k m.1 b' a k' (sym rows-same ∙ o.1 k a (let t = u.room in omega arith)) in
          let there : value_at_slot gs (pos k) ≡ Some z.0 = ap (λ j. value_at_slot gs (pos j)) (sym same) ∙ m.3 in
          sym (count-at (value_at_slot fs) u.times 1 u.n k x.vs z.0 full.values x.distinct a (omega arith) z.1) ∙ counts z.0
          ∙ count-at (value_at_slot gs) v.times 1 v.n k y.vs z.0 full'.values y.distinct a (omega arith) there in
          let agree = each-run (λ k. f (k ∷ []) ≡ g (k ∷ [])) 1 S (λ k a b. cell k a (omega arith) ∙ ap (λ n. Some (pos n)) (either (cases_lt u.n k) (λ c. none k c (omega arith) ∙ sym (none' k (let t = o.0 in omega arith) (omega arith))) (λ c. in-use k a c)) ∙ sym (cell' k a (omega arith))) in
          ap (λ a. rows a (f ∷ fs)) (axes-of-layer whole child)
          ∙ ap (λ l. l ∷ rows (axes_of_children child (e ∷ []) (one_to S ∷ [])) fs) (agree-row (one_to S ∷ []) f g agree)
          ∙ ap (λ l. row (one_to S ∷ []) g ∷ l) (only-child-rows r e (one_to S ∷ []) fs gs x.inner y.inner
          (each-run (λ k. rows (axes_of r e) (behind (k ∷ []) (take (width r) fs)) ≡ rows (axes_of r e) (behind (k ∷ []) (take (width r) gs))) 1 S (λ k a b. o.1 k a (omega arith))))
          ∙ sym (ap (λ a. rows a (g ∷ gs)) (axes-of-layer whole child))
        where
          either : {A B C : Type 0} → A ⊎ B → (A → C) → (B → C) → C
          either (inl a) f g = f a
          either (inr b) f g = g b

  flagged-tidies : (c : Cells) → canonical flagged (msets ks e) c ≡ true → tidy_cells flagged (msets ks e) c ≡ true
  flagged-tidies [] h = cc
  flagged-tidies (f ∷ fs) h =
      let x = flagged-of f fs h in
      let p = x.parts in
      let u = x.counts in
      let slots = u.slots in
      let full = x.full in
      let inside = full.inside in
      let none = u.none in
      let cell = u.cell in
      let ys = each_repeated (from_to u.times 1 u.n) x.vs in
      let ms = each-value (value_at_slot fs) (member e) 1 u.n x.vs full.values
      (λ k a b v q. ap (λ o. is_some_and o (member e)) (sym q) ∙ and-left (is_some_and (value_at_slot fs (pos k)) (member e)) (is_orderly r e (behind (pos k ∷ []) (take (width r) fs))) (right.tidies (behind (pos k ∷ []) (take (width r) fs)) (inside k a (omega arith)))) in
      let row-is : row (one_to S ∷ []) f ≡ map pos (from_to u.times 1 S) = number-row f u.times 1 S (λ k a b. cell k a (omega arith)) in
      let long : length (sorted ys) ≡ total (map pos (from_to u.times 1 S)) =
      sorted-length ys ∙ repeated-length (from_to u.times 1 u.n) x.vs (from-length u.times 1 u.n ∙ sym x.long) ∙ sym (total-first u.times 1 S u.n u.room (λ k a b. none k (omega arith) (omega arith))) in
      and-both (is_some_and (value_of_cells flagged (msets ks e) (f ∷ fs)) (member (msets ks e))) _
      (ap (λ o. is_some_and o (member (msets ks e))) x.value
      ∙ ap (λ l. rises_weakly l && list_all (member e) l && mset_attributes_hold ks l) (to_list-of_list (sorted ys))
      ∙ and-both (rises_weakly (sorted ys) && list_all (member e) (sorted ys)) (mset_attributes_hold ks (sorted ys))
      (and-both (rises_weakly (sorted ys)) (list_all (member e) (sorted ys)) (sorted-rises ys) (sorted-all (member e) ys ∙ all-repeated (member e) (from_to u.times 1 u.n) x.vs ms))
      (attributes-of ks (sorted ys) (map pos (from_to u.times 1 S)) long
      (λ k z a v m c. repeated-times (times_hold k z) (from_to u.times 1 u.n) x.vs x.distinct (all-first (times_hold k z) u.times 1 S u.n u.room a) v m (sym (count-sorted ys v) ∙ c))
      (ap (counts_hold ks) (sym row-is) ∙ p.attributes)))
      (and-both _ _ p.first (ap (λ o. is_some_and o (are_orderly whole child (e ∷ []) fs)) slots.found ∙ slots-orderly r e right S where_counted fs u.n x.vs full x.values))

  -- Canonical cells of multisets in slots with numbers.
  pub mset-flags-right : Right flagged (msets ks e)
  mset-flags-right = record { sound = flagged-sound; unique = flagged-unique; tidies = flagged-tidies }
