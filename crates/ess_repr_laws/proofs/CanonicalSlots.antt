-- Sets as slots: what canonical cells of slots say, where those of the inner domain are right. The first n slots are in
-- use, whatever says so; their values make a member, differ, and decide the rows of all slots.
use Rattle.std.proofs.Common.{◌≡◌, refl, sym, ap, ◌∙◌, ℕ, ◌+◌, Bool, true, ◌&&◌, ◌||◌, not, List, [], ◌∷◌, take, length, ℤ, pos, Option, Some, arith, nat_eq}
use Rattle.std.proofs.lemmas.Bool.{le-leb, lt-leb}
use Rattle.std.specs.List.{list_all}
use Rattle.std.specs.Ordering.{is_lt}
use Rattle.ess_semantics.specs.Lists.{each_of, is_some_and}
use Rattle.ess_semantics.specs.Values.{Value, of_list, to_list, itself}
use Rattle.ess_semantics.specs.Collections.{holds, sorted_once, set_of, rises, no_twice}
use Rattle.ess_semantics.specs.Numbers.{one_to}
use Rattle.ess_semantics.specs.Trees.{Repr, Reprs, no_reprs, more_reprs}
use Rattle.ess_semantics.specs.Domains.{Attribute, Domain, sets, lists_of}
use Rattle.ess_semantics.specs.Attributes.{set_attributes_hold}
use Rattle.ess_semantics.specs.Membership.{member}
use Rattle.ess_semantics.specs.Tables.{Tables}
use Rattle.ess_semantics.specs.Cells.{Cells, behind, are_zero, rows, order_rows}
use Rattle.ess_semantics.specs.Layers.{OwnTable, Layer, Use, Slot, only_child}
use Rattle.ess_semantics.specs.SetLayers.{slots_layer}
use Rattle.ess_semantics.specs.Representations.{width, is_used, places_in_use, value_of_cells}
use Rattle.ess_semantics.specs.Declarations.{axes_of}
use Rattle.ess_semantics.specs.CanonicalTest.{next_slot, in_use_first, slots_rise, child_is_canonical, canonical}
use Rattle.ess_semantics.specs.Tidy.{is_orderly, are_orderly}
use Rattle.ess_repr_laws.specs.CanonicalTables.{Right}
use Rattle.ess_semantics.proofs.Tests.{and-left, and-right, and-both, if-so, if-not, run-all, run-length}
use Rattle.ess_semantics.proofs.Orders.{to_list-of_list}
use Rattle.ess_semantics.proofs.Sorting.{less-of, sorted_once-rises, all-sorted_once, sorted_once-length, holds-sorted_once, distinct-twice}
use Rattle.ess_repr_laws.proofs.RowsOfCells.{EachIndex, axes_of_children}
use Rattle.ess_repr_laws.proofs.SlotsUsed.{SlotsUsed, as_place, slots-are, all-map, each_of-map, each-slot, each-run}
use Rattle.ess_repr_laws.proofs.OneForm.{Filled, filled-once, filled-distinct, values-length, each-value}
use Rattle.ess_repr_laws.proofs.CanonicalParts.{Parts, value_of_layer, value-of-parts, only-child, only-child-rows}

-- ---- slots in use, from one layer of the inner domain

module _ (r : Repr) (e : Domain) (right : Right r e) (S : ℕ) (use_of_slots : Use) where
  -- the layer, but for its own cells and its attributes
  abbrev pub slots : Layer
  slots = slots_layer S e use_of_slots

  -- The cells of a slot.
  abbrev pub slot_at : Cells → ℤ → Cells
  slot_at c k = behind (k ∷ []) c

  -- Of so many slots the first n have canonical cells that rise, and stand for these values.
  abbrev pub Full : (ℤ → Cells) → ℕ → ℕ → List Value → Type 0
  Full = Filled (axes_of r e) (canonical r e) (value_of_cells r e) right.sound right.unique

  -- Canonical cells of slots are such.
  pub filled : (own c : Cells) (n : ℕ) (vs : List Value) → SlotsUsed use_of_slots own S n → child_is_canonical slots own (axes_of r e) (canonical r e) c ≡ true →
      each_of (lists_of (one_to n ∷ [])) (λ j. value_of_cells r e (behind j c)) ≡ Some vs → Full (slot_at c) S n vs
  filled own c n vs u h q =
      let a : Bool = list_all (λ js. not (is_used use_of_slots own js) || canonical r e (behind js c)) (lists_of slots.axes) in
      let b : Bool = slots_rise slots own (axes_of r e) c in
      let z : Bool = list_all (λ js. is_used use_of_slots own js || are_zero (axes_of r e) (behind js c)) (lists_of slots.axes) in
      let l : Bool = nat_eq (length c) (length (axes_of r e)) in
      let ha = and-right l a (and-left (l && a) b (and-left (l && a && b) z h)) in
      let hb = and-right (l && a) b (and-left (l && a && b) z h) in
      let hz = and-right (l && a && b) z h in
      let room = u.room in
      record {
        room = room;
        inside = λ k p s. if-so (is_used use_of_slots own (pos k ∷ [])) (canonical r e (slot_at c (pos k))) (u.used k p (omega arith) ∙ le-leb k n s)
            (each-slot (λ js. not (is_used use_of_slots own js) || canonical r e (behind js c)) S k ha p (omega arith));
        rise = λ k p s. less-of (order_rows (rows (axes_of r e) (slot_at c (pos k))) (rows (axes_of r e) (slot_at c (pos (k + 1)))))
            (if-so (is_used use_of_slots own (pos (k + 1) ∷ [])) (is_lt (order_rows (rows (axes_of r e) (slot_at c (pos k))) (rows (axes_of r e) (slot_at c (pos (k + 1))))))
            (u.used (k + 1) (omega arith) (omega arith) ∙ le-leb (k + 1) n s)
            (each-slot (λ js. not (is_used use_of_slots own (next_slot js)) || is_lt (order_rows (rows (axes_of r e) (behind js c)) (rows (axes_of r e) (behind (next_slot js) c)))) S k hb p (omega arith)));
        free = λ k p s. if-not (is_used use_of_slots own (pos k ∷ [])) (are_zero (axes_of r e) (slot_at c (pos k))) (u.used k (omega arith) s ∙ lt-leb k n p)
            (each-slot (λ js. is_used use_of_slots own js || are_zero (axes_of r e) (behind js c)) S k hz (omega arith) s);
        values = sym (each_of-map (λ j. value_of_cells r e (behind j c)) as_place (one_to n)) ∙ ap (λ js. each_of js (λ j. value_of_cells r e (behind j c))) (sym (slots-are (one_to n))) ∙ q;
      }

  -- Slots of two canonical cells of one set agree.
  pub slots-agree : (c c' : Cells) (n n' : ℕ) (vs vs' : List Value) → Full (slot_at c) S n vs → Full (slot_at c') S n' vs' → sorted_once vs ≡ sorted_once vs' →
      (n ≡ n') × EachIndex (one_to S ∷ []) (λ js. rows (axes_of r e) (behind js c) ≡ rows (axes_of r e) (behind js c'))
  slots-agree c c' n n' vs vs' f f' h =
      let o = filled-once (axes_of r e) (canonical r e) (value_of_cells r e) right.sound right.unique (slot_at c) (slot_at c') S n n' vs vs' f f'
      (λ w. sym (holds-sorted_once vs w) ∙ ap (λ l. holds l w) h ∙ holds-sorted_once vs' w) in
      (o.0, each-run (λ k. rows (axes_of r e) (slot_at c k) ≡ rows (axes_of r e) (slot_at c' k)) 1 S (λ k p q. o.1 k p (omega arith)))

  member-of-slot : (c : Cells) (v : Value) → canonical r e c ≡ true → value_of_cells r e c ≡ Some v → member e v ≡ true
  member-of-slot c v h q =
      ap (λ o. is_some_and o (member e)) (sym q) ∙ and-left (is_some_and (value_of_cells r e c) (member e)) (is_orderly r e c) (right.tidies c h)

  orderly-slot : (c : Cells) → canonical r e c ≡ true → is_orderly r e c ≡ true
  orderly-slot c h = and-right (is_some_and (value_of_cells r e c) (member e)) (is_orderly r e c) (right.tidies c h)

  -- The set of the slots' values is a member.
  pub set-member : (ks : List Attribute) (c : Cells) (n : ℕ) (vs : List Value) → Full (slot_at c) S n vs → set_attributes_hold ks n ≡ true → member (sets ks e) (set_of vs) ≡ true
  set-member ks c n vs f a =
      ap (λ l. rises itself l && list_all (member e) l && set_attributes_hold ks (length l)) (to_list-of_list (sorted_once vs))
      ∙ and-both (rises itself (sorted_once vs) && list_all (member e) (sorted_once vs)) (set_attributes_hold ks (length (sorted_once vs)))
      (and-both (rises itself (sorted_once vs)) (list_all (member e) (sorted_once vs)) (sorted_once-rises vs)
      (all-sorted_once (member e) vs ∙ each-value (λ k. value_of_cells r e (slot_at c k)) (member e) 1 n vs f.values (λ k p q v x. member-of-slot (slot_at c (pos k)) v (f.inside k p (omega arith)) x)))
      (ap (set_attributes_hold ks) (sorted_once-length vs (filled-distinct (axes_of r e) (canonical r e) (value_of_cells r e) right.sound right.unique (slot_at c) S n vs f)
      ∙ values-length (λ k. value_of_cells r e (slot_at c k)) (one_to n) vs f.values ∙ run-length 1 n) ∙ a)

  -- The slots in use are orderly, and differ.
  pub slots-orderly : (inner : Cells) (n : ℕ) (vs : List Value) → Full (slot_at (take (width r) inner)) S n vs → each_of (lists_of (one_to n ∷ [])) (λ j. value_of_cells r e (behind j (take (width r) inner))) ≡ Some vs →
      are_orderly slots (more_reprs r no_reprs) (e ∷ []) inner (lists_of (one_to n ∷ [])) ≡ true
  slots-orderly inner n vs f q =
      let c = take (width r) inner in
      and-both (list_all (λ j. is_orderly r e (behind j c)) (lists_of (one_to n ∷ [])) && is_some_and (each_of (lists_of (one_to n ∷ [])) (λ j. value_of_cells r e (behind j c))) (no_twice itself)) true
      (and-both (list_all (λ j. is_orderly r e (behind j c)) (lists_of (one_to n ∷ []))) (is_some_and (each_of (lists_of (one_to n ∷ [])) (λ j. value_of_cells r e (behind j c))) (no_twice itself))
      (ap (list_all (λ j. is_orderly r e (behind j c))) (slots-are (one_to n)) ∙ all-map (λ j. is_orderly r e (behind j c)) as_place (one_to n)
      ∙ run-all (λ k. is_orderly r e (slot_at c k)) 1 n (λ k p s. orderly-slot (slot_at c (pos k)) (f.inside k p (omega arith))))
      (ap (λ o. is_some_and o (no_twice itself)) q ∙ distinct-twice vs (filled-distinct (axes_of r e) (canonical r e) (value_of_cells r e) right.sound right.unique (slot_at c) S n vs f))) refl

  -- ---- the whole layer: its own tables ws, and what its attributes ask

  module _ (ws : List OwnTable) (ts : Value → List (Option Slot) → Tables) (g : Cells → List (List Value) → Bool) where
    -- The layer.
    abbrev pub whole : Layer
    whole = record slots { own = ws; own_tables = ts; is_canonical = g }

    -- Its only child.
    abbrev pub child : Reprs
    child = more_reprs r no_reprs

    -- What canonical cells of the layer hold: n slots in use, with the values vs.
    pub record Held (own inner : Cells) (n : ℕ) : Type 0 where
      pub vs : List Value
      pub full : Full (slot_at (take (width r) inner)) S n vs
      pub places : places_in_use whole own ≡ Some (lists_of (one_to n ∷ []))
      pub values : each_of (lists_of (one_to n ∷ [])) (λ j. value_of_cells r e (behind j (take (width r) inner))) ≡ Some vs
      pub value : value_of_layer whole child own inner ≡ Some (set_of vs)
      pub long : length (take (width r) inner) ≡ length (axes_of r e)

    -- The first n slots hold values that rise.
    pub held : (own inner : Cells) (n : ℕ) → Parts whole child own inner → SlotsUsed use_of_slots own S n → Held own inner n
    held own inner n p u =
        let o = only-child r e whole own inner p.js p.vss p.inside p.values in
        let js : p.js ≡ lists_of (one_to n ∷ []) = let z : Some p.js ≡ Some (lists_of (one_to n ∷ [])) = sym p.used ∙ u.found in cc in
        let q : each_of (lists_of (one_to n ∷ [])) (λ j. value_of_cells r e (behind j (take (width r) inner))) ≡ Some o.vs = ap (λ l. each_of l (λ j. value_of_cells r e (behind j (take (width r) inner)))) (sym js) ∙ o.values in
        record {
          vs = o.vs;
          full = filled own (take (width r) inner) n o.vs u o.inside q;
          places = u.found;
          values = q;
          value = value-of-parts whole child own inner p ∙ ap (λ vss. Some (set_of (only_child vss))) o.only;
          long = o.long;
        }

    -- Such slots are tidy.
    pub held-tidy : (ks : List Attribute) (own inner : Cells) (n : ℕ) → Held own inner n → in_use_first whole own ≡ true → set_attributes_hold ks n ≡ true →
        is_some_and (value_of_layer whole child own inner) (member (sets ks e)) && (true && in_use_first whole own && is_some_and (places_in_use whole own) (are_orderly whole child (e ∷ []) inner)) ≡ true
    held-tidy ks own inner n h first a =
        and-both (is_some_and (value_of_layer whole child own inner) (member (sets ks e))) (in_use_first whole own && is_some_and (places_in_use whole own) (are_orderly whole child (e ∷ []) inner))
        (ap (λ o. is_some_and o (member (sets ks e))) h.value ∙ set-member ks (take (width r) inner) n h.vs h.full a)
        (and-both (in_use_first whole own) (is_some_and (places_in_use whole own) (are_orderly whole child (e ∷ []) inner)) first
        (ap (λ o. is_some_and o (are_orderly whole child (e ∷ []) inner)) h.places ∙ slots-orderly inner n h.vs h.full h.values))

    -- They are one for each set.
    pub held-once : (own own' inner inner' : Cells) (n n' : ℕ) → Held own inner n → Held own' inner' n' → value_of_layer whole child own inner ≡ value_of_layer whole child own' inner' →
        (n ≡ n') × (rows (axes_of_children child (e ∷ []) (one_to S ∷ [])) inner ≡ rows (axes_of_children child (e ∷ []) (one_to S ∷ [])) inner')
    held-once own own' inner inner' n n' h h' q =
        let eq : Some (set_of h.vs) ≡ Some (set_of h'.vs) = sym h.value ∙ q ∙ h'.value in
        let ls : of_list (sorted_once h.vs) ≡ of_list (sorted_once h'.vs) = cc in
        let s : sorted_once h.vs ≡ sorted_once h'.vs = sym (to_list-of_list (sorted_once h.vs)) ∙ ap to_list ls ∙ to_list-of_list (sorted_once h'.vs) in
        let o = slots-agree (take (width r) inner) (take (width r) inner') n n' h.vs h'.vs h.full h'.full s in
        (o.0, only-child-rows r e (one_to S ∷ []) inner inner' h.long h'.long o.1)
