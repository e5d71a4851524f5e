-- Sets as slots with a dummy are right.
use Rattle.std.proofs.Common.{true≢false, ◌≡◌, refl, sym, ap, ◌∙◌, subst, ℕ, zero, suc, ◌+◌, ◌≤◌, ◌<◌, Bool, true, false, ◌&&◌, ◌||◌, not, if◌then◌else◌, List, [], ◌∷◌, length, ℤ, pos, ◌+ℤ◌, ◌<ℤ◌, ◌≤ℤ◌, Some, option_map, int_lt, arith, le_refl, ◌⊎◌, inl, inr}
use Rattle.std.proofs.lemmas.Bool.{le-leb, lt-leb, cases_lt}
use Rattle.std.proofs.lemmas.Int.{ints}
use Rattle.std.specs.List.{list_all, list_any}
use Rattle.std.specs.Ordering.{int_cmp}
use Rattle.std.specs.Cmp.{int_cmp_is}
use Rattle.std.proofs.lemmas.Cmp.{int_cmp_total}
use Rattle.std.specs.declared.cmp.Ordering.TheVariants.{Less}
use Rattle.ess_semantics.specs.declared.words.ReprKind.{ReprKind}
use Rattle.ess_semantics.specs.Lists.{and_then, each_of, append_all, is_some_and, or_default}
use Rattle.ess_semantics.specs.Values.{Value, number, to_list, of_list, itself}
use Rattle.ess_semantics.specs.Order.{same_int}
use Rattle.ess_semantics.specs.Collections.{holds, sorted_once, set_of, rises}
use Rattle.ess_semantics.specs.Numbers.{run_from, one_to}
use Rattle.ess_semantics.specs.Trees.{Repr, repr, no_reprs}
use Rattle.ess_semantics.specs.Domains.{Attribute, Domain, sets}
use Rattle.ess_semantics.specs.Attributes.{set_attributes_hold}
use Rattle.ess_semantics.specs.Membership.{member}
use Rattle.ess_semantics.specs.Sizes.{slots_of_set}
use Rattle.ess_semantics.specs.Tables.{code, is_cell, atom_value}
use Rattle.ess_semantics.specs.Cells.{Grid, Cells, every_cell, rows}
use Rattle.ess_semantics.specs.Layers.{as_numbers}
use Rattle.ess_semantics.specs.SetLayers.{dummy_of, with_number, but_dummy, dummies_last, holds_member, slot_below, dummies_rise, members_held, dummy_layer}
use Rattle.ess_semantics.specs.Representations.{value_of_cells}
use Rattle.ess_semantics.specs.Declarations.{axes_of}
use Rattle.ess_semantics.specs.CanonicalTest.{canonical}
use Rattle.ess_semantics.specs.Tidy.{tidy_cells}
use Rattle.ess_repr_laws.specs.CanonicalTables.{Right}
use Rattle.ess_semantics.proofs.Tests.{and-left, and-right, and-both, if-so, some-and, all-run, not-true}
use Rattle.ess_semantics.proofs.Orders.{to_list-of_list, same_int-equal, same_int-itself}
use Rattle.ess_semantics.proofs.Sorting.{Rising, Has, one-list, sorted_once-rises, all-sorted_once, sorted_once-length, holds-sorted_once, Distinct}
use Rattle.ess_repr_laws.proofs.RowsOfCells.{agree-row}
use Rattle.ess_repr_laws.proofs.SlotsUsed.{first-ones, each-run}
use Rattle.ess_semantics.proofs.Runs.{from_to, from-length, sorted-from, has-at, found, same-at, apart-at}
use Rattle.ess_repr_laws.proofs.CanonicalParts.{Parts, parts-of}
use Rattle.ess_repr_laws.proofs.CanonicalScalars.{Stands}
use Rattle.ess_repr_laws.proofs.Dummies.{Dummy, lt-of, holds-from, from-holds, from-all, filter-run}

less-of-lt : (a b : ℤ) → a <ℤ b → int_cmp a b ≡ Less
less-of-lt a b h = sym (int_cmp_is a b Less h)

below-dummy : (a b m : ℤ) → a <ℤ b → b ≤ℤ m → same_int m a ≡ false
below-dummy a b m l u = go (same_int m a) refl
  where
    go : (x : Bool) → same_int m a ≡ x → same_int m a ≡ false
    go false q = q
    go true q = let e : m ≡ a = same_int-equal m a q in absurd (omega (arith, ints))

module _ (e : Domain) (ks : List Attribute) (m : ℤ) (D : Dummy e m) where
  abbrev S : ℕ
  S = slots_of_set ks e

  abbrev with_dummy : Repr
  with_dummy = repr ReprKind.ExplicitVarSizeWithDummy no_reprs

  -- the number and the value of a slot
  abbrev number_at : Grid → ℕ → ℤ
  number_at f k = or_default (f (pos k ∷ [])) (pos 0)

  abbrev value_at_slot : Grid → ℕ → Value
  value_at_slot f k = or_default (atom_value e (number_at f k)) (number (pos 0))

  record Slots (f : Grid) : Type 0 where
    parts : Parts (dummy_layer ks e) no_reprs (f ∷ []) []
    cell : (k : ℕ) → 1 ≤ k → k ≤ S → f (pos k ∷ []) ≡ Some (number_at f k)
    inside : (k : ℕ) → 1 ≤ k → k ≤ S → is_cell (with_number (Some m) (as_numbers e)) (number_at f k) ≡ true
    n : ℕ
    room : n ≤ S
    used : (k : ℕ) → 1 ≤ k → k ≤ n → same_int m (number_at f k) ≡ false
    free : (k : ℕ) → n < k → k ≤ S → m ≡ number_at f k
    rise : (k : ℕ) → 1 ≤ k → k + 1 ≤ n → int_cmp (number_at f k) (number_at f (k + 1)) ≡ Less
    sizes : set_attributes_hold ks (members_held S m f) ≡ true

  slots-of : (f : Grid) → canonical with_dummy (sets ks e) (f ∷ []) ≡ true → Slots f
  slots-of f h =
      let p = parts-of (dummy_layer ks e) no_reprs (f ∷ []) [] h in
      let both = ap (λ o. is_some_and o (λ m. dummies_rise S m f && set_attributes_hold ks (members_held S m f))) (sym D.is) ∙ p.attributes in
      let rise = and-left (dummies_rise S m f) (set_attributes_hold ks (members_held S m f)) both in
      let fit : every_cell (one_to S ∷ []) (is_cell (with_number (Some m) (as_numbers e))) f ≡ true = ap (λ o. every_cell (one_to S ∷ []) (is_cell (with_number o (as_numbers e))) f) (sym D.is) ∙ and-left (every_cell (one_to S ∷ []) (is_cell (with_number (dummy_of e) (as_numbers e))) f) true p.fit in
      let each = λ (k : ℕ) (a : 1 ≤ k) (b : k ≤ S). some-and (f (pos k ∷ [])) (is_cell (with_number (Some m) (as_numbers e))) (all-run (λ k. is_some_and (f (k ∷ [])) (is_cell (with_number (Some m) (as_numbers e)))) 1 S k fit a (omega arith)) in
      let cell = λ (k : ℕ) (a : 1 ≤ k) (b : k ≤ S). there k (each k a b) in
      let inside = λ (k : ℕ) (a : 1 ≤ k) (b : k ≤ S). let x = each k a b in ap (λ o. is_cell (with_number (Some m) (as_numbers e)) (or_default o (pos 0))) x.1 ∙ x.2 in
      let step = λ (k : ℕ) (a : 1 ≤ k) (b : k ≤ S) (q : holds_member m f (pos (k + 1)) ≡ true).
      if-so (holds_member m f (pos (k + 1))) (slot_below f (pos k) (pos (k + 1))) q (all-run (λ k. not (holds_member m f (k +ℤ pos 1)) || slot_below f k (k +ℤ pos 1)) 1 S k rise a (omega arith)) in
      let lower = λ (k : ℕ) (a : 1 ≤ k) (b : k + 1 ≤ S) (q : slot_below f (pos k) (pos (k + 1)) ≡ true).
      lt-of (number_at f k) (number_at f (k + 1)) (sym (ap (λ o. is_some_and o (λ x. is_some_and (f (pos (k + 1) ∷ [])) (λ y. int_lt x y))) (cell k a (omega arith)) ∙ ap (λ o. is_some_and o (λ y. int_lt (number_at f k) y)) (cell (k + 1) (omega arith) b)) ∙ q) in
      let r = first-ones (λ k. holds_member m f (pos k)) S (λ k a b q. ap (λ o. is_some_and o (λ n. not (same_int m n))) (cell k a (omega arith))
      ∙ ap not (below-dummy (number_at f k) (number_at f (k + 1)) m (lower k a b (step k a (omega arith) q)) (D.under (number_at f (k + 1)) (inside (k + 1) (omega arith) b)))) in
      let held = λ (k : ℕ) (a : 1 ≤ k) (b : k ≤ S). sym (ap (λ o. is_some_and o (λ n. not (same_int m n))) (cell k a b)) ∙ r.2 k a b in
      record {
        parts = p;
        cell = cell;
        inside = inside;
        n = r.0;
        room = r.1;
        used = λ k a b. not-true (same_int m (number_at f k)) (held k a (let t = r.1 in omega arith) ∙ le-leb k r.0 b);
        free = λ k a b. same_int-equal m (number_at f k) (not-false (same_int m (number_at f k)) (held k (omega arith) b ∙ lt-leb k r.0 a));
        rise = λ k a b. less-of-lt (number_at f k) (number_at f (k + 1)) (lower k a (let t = r.1 in omega arith) (step k a (let t = r.1 in omega arith) (r.2 (k + 1) (omega arith) (let t = r.1 in omega arith) ∙ le-leb (k + 1) r.0 b)));
        sizes = and-right (dummies_rise S m f) (set_attributes_hold ks (members_held S m f)) both;
      }
    where
      there : (k : ℕ) → (x : ℤ) × (f (pos k ∷ []) ≡ Some x) × (is_cell (with_number (Some m) (as_numbers e)) x ≡ true) → f (pos k ∷ []) ≡ Some (number_at f k)
      there k x = x.1 ∙ ap (λ z. Some z) (ap (λ o. or_default o (pos 0)) (sym x.1))

      not-false : (b : Bool) → not b ≡ false → b ≡ true
      not-false true e = refl
      not-false false e = cc

  -- ---- what the slots stand for

  stands-at : (f : Grid) (x : Slots f) (k : ℕ) → 1 ≤ k → k ≤ S → same_int m (number_at f k) ≡ false → Stands e (number_at f k)
  stands-at f x k a b q = D.stands (number_at f k) (x.inside k a b) q

  value-is : (f : Grid) (k : ℕ) (s : Stands e (number_at f k)) → value_at_slot f k ≡ s.0
  value-is f k s = ap (λ o. or_default o (number (pos 0))) s.1

  each-slot-value : (f : Grid) (a s t : ℕ) → t ≤ s → ((k : ℕ) → a ≤ k → k < a + s → f (pos k ∷ []) ≡ Some (number_at f k)) →
      ((k : ℕ) → a ≤ k → k < a + t → (same_int m (number_at f k) ≡ false) × (atom_value e (number_at f k) ≡ Some (value_at_slot f k))) → ((k : ℕ) → a + t ≤ k → k < a + s → same_int m (number_at f k) ≡ true) →
      (ls : List (List Value)) × (each_of (run_from a s) (λ k. and_then (f (k ∷ [])) (but_dummy e m)) ≡ Some ls) × (append_all ls ≡ from_to (value_at_slot f) a t)
  each-slot-value f a zero zero h c p q = ([], refl, refl)
  each-slot-value f a zero (suc t) h c p q = absurd (omega arith)
  each-slot-value f a (suc s) zero h c p q =
      let r = each-slot-value f (suc a) s zero (omega arith) (λ k x y. c k (omega arith) (omega arith)) (λ k x y. absurd (omega arith)) (λ k x y. q k (omega arith) (omega arith)) in (
        [] ∷ r.0,
        ap (λ o. and_then (and_then o (but_dummy e m)) (λ y. option_map (λ ys. y ∷ ys) (each_of (run_from (suc a) s) (λ k. and_then (f (k ∷ [])) (but_dummy e m))))) (c a (le_refl a) (omega arith))
            ∙ ap (λ b. and_then (if b then Some [] else option_map (λ v. v ∷ []) (atom_value e (number_at f a))) (λ y. option_map (λ ys. y ∷ ys) (each_of (run_from (suc a) s) (λ k. and_then (f (k ∷ [])) (but_dummy e m))))) (q a (omega arith) (omega arith))
            ∙ ap (option_map (λ ys. [] ∷ ys)) r.1,
        r.2,
      )
  each-slot-value f a (suc s) (suc t) h c p q =
      let r = each-slot-value f (suc a) s t (omega arith) (λ k x y. c k (omega arith) (omega arith)) (λ k x y. p k (omega arith) (omega arith)) (λ k x y. q k (omega arith) (omega arith)) in
      let u = p a (le_refl a) (omega arith) in (
        (value_at_slot f a ∷ []) ∷ r.0,
        ap (λ o. and_then (and_then o (but_dummy e m)) (λ y. option_map (λ ys. y ∷ ys) (each_of (run_from (suc a) s) (λ k. and_then (f (k ∷ [])) (but_dummy e m))))) (c a (le_refl a) (omega arith))
            ∙ ap (λ b. and_then (if b then Some [] else option_map (λ v. v ∷ []) (atom_value e (number_at f a))) (λ y. option_map (λ ys. y ∷ ys) (each_of (run_from (suc a) s) (λ k. and_then (f (k ∷ [])) (but_dummy e m))))) u.0
            ∙ ap (λ o. and_then (option_map (λ v. v ∷ []) o) (λ y. option_map (λ ys. y ∷ ys) (each_of (run_from (suc a) s) (λ k. and_then (f (k ∷ [])) (but_dummy e m))))) u.1
            ∙ ap (option_map (λ ys. (value_at_slot f a ∷ []) ∷ ys)) r.1,
        ap (λ l. value_at_slot f a ∷ l) r.2,
      )

  slots-value : (f : Grid) (x : Slots f) → value_of_cells with_dummy (sets ks e) (f ∷ []) ≡ Some (set_of (from_to (value_at_slot f) 1 x.n))
  slots-value f x =
      let room = x.room in
      let used = x.used in
      let free = x.free in
      let r = each-slot-value f 1 S x.n room (λ k a b. x.cell k a (omega arith))
      (λ k a b. let s = stands-at f x k a (omega arith) (used k a (omega arith)) in (used k a (omega arith), s.1 ∙ ap (λ z. Some z) (sym (value-is f k s))))
      (λ k a b. ap (same_int m) (sym (free k (omega arith) (omega arith))) ∙ same_int-itself m) in
      ap (λ o. and_then o (λ m. option_map (λ ls. set_of (append_all ls)) (each_of (one_to S) (λ k. and_then (f (k ∷ [])) (but_dummy e m))))) D.is
      ∙ ap (option_map (λ ls. set_of (append_all ls))) r.1 ∙ ap (λ l. Some (set_of l)) r.2

  -- the value of a slot in use has the slot's number
  code-at : (f : Grid) (x : Slots f) (k : ℕ) → 1 ≤ k → k ≤ x.n → code (value_at_slot f k) ≡ number_at f k
  code-at f x k a b = let s = stands-at f x k a (let t = x.room in omega arith) (x.used k a b) in ap code (value-is f k s) ∙ s.3

  sorted : (f : Grid) (x : Slots f) → Rising int_cmp_total (from_to (number_at f) 1 x.n)
  sorted f x = sorted-from int_cmp_total (number_at f) 1 x.n (λ k a b. x.rise k a (omega arith))

  -- ---- right

  too-many : (f g : Grid) (gs : Cells) → canonical with_dummy (sets ks e) (f ∷ g ∷ gs) ≡ true → ⊥
  too-many f g gs h = let p = parts-of (dummy_layer ks e) no_reprs (f ∷ []) (g ∷ gs) h in let z : false ≡ true = p.inside in cc

  dummy-sound : (c : Cells) → canonical with_dummy (sets ks e) c ≡ true → (v : Value) × (value_of_cells with_dummy (sets ks e) c ≡ Some v)
  dummy-sound [] h = cc
  dummy-sound (f ∷ []) h = let x = slots-of f h in (set_of (from_to (value_at_slot f) 1 x.n), slots-value f x)
  dummy-sound (f ∷ g ∷ gs) h = absurd (too-many f g gs h)

  -- numbers of one are numbers of the other
  within : (f g : Grid) (x : Slots f) (y : Slots g) → ((w : Value) → holds (from_to (value_at_slot f) 1 x.n) w ≡ true → holds (from_to (value_at_slot g) 1 y.n) w ≡ true) →
      (z : ℤ) → Has int_cmp_total (from_to (number_at f) 1 x.n) z → Has int_cmp_total (from_to (number_at g) 1 y.n) z
  within f g x y inc z h =
      let r = found int_cmp_total (number_at f) 1 x.n z h in
      let a : r.0 ≤ x.n = let t = r.2 in omega arith in
      let k = from-holds (value_at_slot g) 1 y.n (value_at_slot f r.0) (inc (value_at_slot f r.0) (holds-from (value_at_slot f) 1 x.n r.0 r.1 r.2)) in
      let b : k.0 ≤ y.n = let t = k.2 in omega arith in
      let same : number_at g k.0 ≡ z = sym (code-at g y k.0 k.1 b) ∙ ap code k.3 ∙ code-at f x r.0 r.1 a ∙ r.3 in
      subst (Has int_cmp_total (from_to (number_at g) 1 y.n)) same (has-at int_cmp_total (number_at g) 1 y.n k.0 k.1 k.2)

  dummy-unique : (c c' : Cells) → canonical with_dummy (sets ks e) c ≡ true → canonical with_dummy (sets ks e) c' ≡ true →
      value_of_cells with_dummy (sets ks e) c ≡ value_of_cells with_dummy (sets ks e) c' → rows (axes_of with_dummy (sets ks e)) c ≡ rows (axes_of with_dummy (sets ks e)) c'
  dummy-unique [] c' h h' q = cc
  dummy-unique (f ∷ g ∷ gs) c' h h' q = absurd (too-many f g gs h)
  dummy-unique (f ∷ []) [] h h' q = cc
  dummy-unique (f ∷ []) (f' ∷ g ∷ gs) h h' q = absurd (too-many f' g gs h')
  dummy-unique (f ∷ []) (g ∷ []) h h' q = go (slots-of f h) (slots-of g h')
    where
      go : Slots f → Slots g → rows (axes_of with_dummy (sets ks e)) (f ∷ []) ≡ rows (axes_of with_dummy (sets ks e)) (g ∷ [])
      go x y =
          let vs = from_to (value_at_slot f) 1 x.n in
          let ws = from_to (value_at_slot g) 1 y.n in
          let eq : Some (set_of vs) ≡ Some (set_of ws) = sym (slots-value f x) ∙ q ∙ slots-value g y in
          let ls : of_list (sorted_once vs) ≡ of_list (sorted_once ws) = cc in
          let s : sorted_once vs ≡ sorted_once ws = sym (to_list-of_list (sorted_once vs)) ∙ ap to_list ls ∙ to_list-of_list (sorted_once ws) in
          let hold = λ (w : Value). sym (holds-sorted_once vs w) ∙ ap (λ l. holds l w) s ∙ holds-sorted_once ws w in
          let one = one-list int_cmp_total (from_to (number_at f) 1 x.n) (from_to (number_at g) 1 y.n) (sorted f x) (sorted g y)
          (within f g x y (λ w p. sym (hold w) ∙ p)) (within g f y x (λ w p. hold w ∙ p)) in
          let r = same-at (number_at f) (number_at g) 1 x.n y.n one in
          let free = x.free in
          let free' = y.free in
          let cell = x.cell in
          let cell' = y.cell in
          ap (λ l. l ∷ []) (agree-row (one_to S ∷ []) f g (each-run (λ k. f (k ∷ []) ≡ g (k ∷ [])) 1 S
          (λ k a b. cell k a (omega arith) ∙ ap (λ z. Some z) (either (cases_lt x.n k) (λ l. sym (free k l (omega arith)) ∙ free' k (let t = r.0 in omega arith) (omega arith)) (λ l. r.1 k a (omega arith))) ∙ sym (cell' k a (omega arith)))))
        where
          either : {A B C : Type 0} → A ⊎ B → (A → C) → (B → C) → C
          either (inl a) f g = f a
          either (inr b) f g = g b

  -- ---- tidy

  distinct-from : (f : Grid) (a n : ℕ) → Rising int_cmp_total (from_to (number_at f) a n) → ((k : ℕ) → a ≤ k → k < a + n → code (value_at_slot f k) ≡ number_at f k) → Distinct (from_to (value_at_slot f) a n)
  distinct-from f a zero r c = tt
  distinct-from f a (suc n) r c = (go (holds (from_to (value_at_slot f) (suc a) n) (value_at_slot f a)) refl, distinct-from f (suc a) n r.1 (λ k p q. c k (omega arith) (omega arith)))
    where
      go : (b : Bool) → holds (from_to (value_at_slot f) (suc a) n) (value_at_slot f a) ≡ b → holds (from_to (value_at_slot f) (suc a) n) (value_at_slot f a) ≡ false
      go false q = q
      go true q =
          let k = from-holds (value_at_slot f) (suc a) n (value_at_slot f a) q in
          let same : number_at f a ≡ number_at f k.0 = sym (c a (le_refl a) (omega arith)) ∙ ap code (sym k.3) ∙ c k.0 (let t = k.1 in omega arith) (let t = k.2 in omega arith) in
          let one : a ≡ k.0 = apart-at int_cmp_total (number_at f) a (suc n) r a k.0 (le_refl a) (omega arith) (let t = k.1 in omega arith) (let t = k.2 in omega arith) same in
          absurd (let t = k.1 in omega arith)

  -- no number of the slots that follow is this one
  none-same : (f : Grid) (z : ℤ) (a s : ℕ) → ((k : ℕ) → a ≤ k → k < a + s → same_int z (number_at f k) ≡ false) → list_any (same_int z) (from_to (number_at f) a s) ≡ false
  none-same f z a zero h = refl
  none-same f z a (suc s) h = ap (λ b. b || list_any (same_int z) (from_to (number_at f) (suc a) s)) (h a (le_refl a) (omega arith)) ∙ none-same f z (suc a) s (λ k p q. h k (omega arith) (omega arith))

  all-dummy : (f : Grid) (a s : ℕ) → ((k : ℕ) → a ≤ k → k < a + s → m ≡ number_at f k) → list_all (same_int m) (from_to (number_at f) a s) ≡ true
  all-dummy f a zero h = refl
  all-dummy f a (suc s) h = and-both (same_int m (number_at f a)) (list_all (same_int m) (from_to (number_at f) (suc a) s)) (ap (same_int m) (sym (h a (le_refl a) (omega arith))) ∙ same_int-itself m) (all-dummy f (suc a) s (λ k p q. h k (omega arith) (omega arith)))

  last-dummies : (f : Grid) (a s t : ℕ) → t ≤ s → Rising int_cmp_total (from_to (number_at f) a t) → ((k : ℕ) → a ≤ k → k < a + t → same_int m (number_at f k) ≡ false) → ((k : ℕ) → a + t ≤ k → k < a + s → m ≡ number_at f k) →
      dummies_last m (from_to (number_at f) a s) ≡ true
  last-dummies f a zero t h r p q = refl
  last-dummies f a (suc s) zero h r p q =
      ap (λ b. if b then list_all (same_int m) (from_to (number_at f) (suc a) s) else not (list_any (same_int (number_at f a)) (from_to (number_at f) (suc a) s)) && dummies_last m (from_to (number_at f) (suc a) s)) (ap (same_int m) (sym (q a (omega arith) (omega arith))) ∙ same_int-itself m)
      ∙ all-dummy f (suc a) s (λ k u v. q k (omega arith) (omega arith))
  last-dummies f a (suc s) (suc t) h r p q =
      ap (λ b. if b then list_all (same_int m) (from_to (number_at f) (suc a) s) else not (list_any (same_int (number_at f a)) (from_to (number_at f) (suc a) s)) && dummies_last m (from_to (number_at f) (suc a) s)) (p a (le_refl a) (omega arith))
      ∙ and-both (not (list_any (same_int (number_at f a)) (from_to (number_at f) (suc a) s))) (dummies_last m (from_to (number_at f) (suc a) s))
      (ap not (none-same f (number_at f a) (suc a) s (λ k u v. apart k u v (cases_lt k (suc (a + t)))))) (last-dummies f (suc a) s t (omega arith) r.1 (λ k u v. p k (omega arith) (omega arith)) (λ k u v. q k (omega arith) (omega arith)))
    where
      apart : (k : ℕ) → suc a ≤ k → k < suc a + s → (k < suc (a + t)) ⊎ (suc (a + t) ≤ k) → same_int (number_at f a) (number_at f k) ≡ false
      apart k u v c = go (same_int (number_at f a) (number_at f k)) refl
        where
          go : (b : Bool) → same_int (number_at f a) (number_at f k) ≡ b → same_int (number_at f a) (number_at f k) ≡ false
          go false z = z
          go true z = absurd (no c (same_int-equal (number_at f a) (number_at f k) z))
            where
              no : (k < suc (a + t)) ⊎ (suc (a + t) ≤ k) → number_at f a ≡ number_at f k → ⊥
              no (inl l) w = let one : a ≡ k = apart-at int_cmp_total (number_at f) a (suc t) r a k (le_refl a) (omega arith) (omega arith) (omega arith) w in absurd (omega arith)
              no (inr l) w =
                  let d : m ≡ number_at f k = q k (omega arith) (omega arith) in
                  let x : true ≡ false = sym (same_int-itself m) ∙ ap (same_int m) (d ∙ sym w) ∙ p a (le_refl a) (omega arith) in true≢false x

  each-there : (f : Grid) (a s : ℕ) → ((k : ℕ) → a ≤ k → k < a + s → f (pos k ∷ []) ≡ Some (number_at f k)) → each_of (run_from a s) (λ k. f (k ∷ [])) ≡ Some (from_to (number_at f) a s)
  each-there f a zero h = refl
  each-there f a (suc s) h =
      ap (λ o. and_then o (λ y. option_map (λ ys. y ∷ ys) (each_of (run_from (suc a) s) (λ k. f (k ∷ []))))) (h a (le_refl a) (omega arith))
      ∙ ap (option_map (λ ys. number_at f a ∷ ys)) (each-there f (suc a) s (λ k p q. h k (omega arith) (omega arith)))

  dummy-tidies : (c : Cells) → canonical with_dummy (sets ks e) c ≡ true → tidy_cells with_dummy (sets ks e) c ≡ true
  dummy-tidies [] h = cc
  dummy-tidies (f ∷ g ∷ gs) h = absurd (too-many f g gs h)
  dummy-tidies (f ∷ []) h =
      let x = slots-of f h in
      let vs = from_to (value_at_slot f) 1 x.n in
      let room = x.room in
      let used = x.used in
      let free = x.free in
      let cell = x.cell in
      let d = distinct-from f 1 x.n (sorted f x) (λ k a b. code-at f x k a (omega arith)) in
      let count : members_held S m f ≡ x.n = filter-run (holds_member m f) 1 S x.n room
      (λ k a b. ap (λ o. is_some_and o (λ n. not (same_int m n))) (cell k a (omega arith)) ∙ ap not (used k a (omega arith)))
      (λ k a b. ap (λ o. is_some_and o (λ n. not (same_int m n))) (cell k (omega arith) (omega arith)) ∙ ap not (ap (same_int m) (sym (free k (omega arith) (omega arith))) ∙ same_int-itself m)) in
      and-both (is_some_and (value_of_cells with_dummy (sets ks e) (f ∷ [])) (member (sets ks e))) _
      (ap (λ o. is_some_and o (member (sets ks e))) (slots-value f x)
      ∙ ap (λ l. rises itself l && list_all (member e) l && set_attributes_hold ks (length l)) (to_list-of_list (sorted_once vs))
      ∙ and-both (rises itself (sorted_once vs) && list_all (member e) (sorted_once vs)) (set_attributes_hold ks (length (sorted_once vs)))
      (and-both (rises itself (sorted_once vs)) (list_all (member e) (sorted_once vs)) (sorted_once-rises vs)
      (all-sorted_once (member e) vs ∙ from-all (member e) (value_at_slot f) 1 x.n (λ k a b. let s = stands-at f x k a (omega arith) (used k a (omega arith)) in ap (member e) (value-is f k s) ∙ s.2)))
      (ap (set_attributes_hold ks) (sorted_once-length vs d ∙ from-length (value_at_slot f) 1 x.n ∙ sym count) ∙ x.sizes))
      (and-both _ true (and-both _ true
      (ap (λ o. is_some_and o (λ m. is_some_and (each_of (one_to S) (λ k. f (k ∷ []))) (dummies_last m))) D.is
      ∙ ap (λ o. is_some_and o (dummies_last m)) (each-there f 1 S (λ k a b. cell k a (omega arith)))
      ∙ last-dummies f 1 S x.n room (sorted f x) (λ k a b. used k a (omega arith)) (λ k a b. free k (omega arith) (omega arith))) refl) refl)

  -- Canonical cells of sets in slots with a dummy.
  pub dummy-right : Right with_dummy (sets ks e)
  dummy-right = record { sound = dummy-sound; unique = dummy-unique; tidies = dummy-tidies }
