-- The representations of sets as slots are right over each inner representation that is right.
use Rattle.std.proofs.Common.{◌≡◌, refl, sym, ap, ◌∙◌, ℕ, zero, suc, ◌+◌, ◌≤◌, ◌<◌, Bool, true, List, [], ◌∷◌, pos, Option, Some, arith, ◌⊎◌, inl, inr}
use Rattle.std.proofs.lemmas.Bool.{cases_lt}
use Rattle.ess_semantics.specs.declared.words.ReprKind.{ReprKind}
use Rattle.ess_semantics.specs.Lists.{is_some_and, or_default}
use Rattle.ess_semantics.specs.Values.{Value}
use Rattle.ess_semantics.specs.Collections.{set_of}
use Rattle.ess_semantics.specs.Numbers.{natural, run_from, one_to}
use Rattle.ess_semantics.specs.Trees.{Repr, Reprs, repr, no_reprs, more_reprs}
use Rattle.ess_semantics.specs.Domains.{Attribute, Domain, sets, booleans}
use Rattle.ess_semantics.specs.Attributes.{set_attributes_hold}
use Rattle.ess_semantics.specs.Sizes.{slots_of_set}
use Rattle.ess_semantics.specs.Tables.{Tables, is_cell}
use Rattle.ess_semantics.specs.Cells.{Grid, Cells, Axes, every_cell, gather, row, rows}
use Rattle.ess_semantics.specs.Layers.{all_slots, up_to_marker, where_flagged, Slot, fixed_table, up_to, no_own_tables, own_cell, own_row, count_true, flags_table}
use Rattle.ess_semantics.specs.SetLayers.{explicit_layer, marker_table, marker_layer, flags_layer}
use Rattle.ess_semantics.specs.Representations.{own_part, child_part, value_of_cells}
use Rattle.ess_semantics.specs.Declarations.{axes_of}
use Rattle.ess_semantics.specs.CanonicalTest.{canonical}
use Rattle.ess_semantics.specs.Tidy.{tidy_cells}
use Rattle.ess_repr_laws.specs.CanonicalTables.{Right}
use Rattle.ess_semantics.proofs.Tests.{and-left}
use Rattle.ess_repr_laws.proofs.RowsOfCells.{Agree, agree-row, axes-of-layer, axes_of_children}
use Rattle.ess_repr_laws.proofs.SlotsUsed.{all_slots-used, marker-cell, marker-used, FlagsUsed, flags-used, each-run}
use Rattle.ess_repr_laws.proofs.CanonicalParts.{Parts, parts-of}
use Rattle.ess_repr_laws.proofs.CanonicalSlots.{Held, held, held-tidy, held-once}

-- ---- flags as a row

-- how many of the flags are true
count-run : (f : Grid) (a s t : ℕ) → t ≤ s → ((k : ℕ) → a ≤ k → k < a + t → f (pos k ∷ []) ≡ Some (pos 1)) → ((k : ℕ) → a + t ≤ k → k < a + s → f (pos k ∷ []) ≡ Some (pos 0)) →
    count_true (gather (run_from a s) (λ k. or_default (f (k ∷ [])) (pos 0) ∷ [])) ≡ t
count-run f a zero zero h p q = refl
count-run f a zero (suc t) h p q = absurd (omega arith)
count-run f a (suc s) zero h p q =
    ap (λ o. count_true (or_default o (pos 0) ∷ gather (run_from (suc a) s) (λ k. or_default (f (k ∷ [])) (pos 0) ∷ []))) (q a (omega arith) (omega arith))
    ∙ count-run f (suc a) s zero (omega arith) (λ k x y. absurd (omega arith)) (λ k x y. q k (omega arith) (omega arith))
count-run f a (suc s) (suc t) h p q =
    ap (λ o. count_true (or_default o (pos 0) ∷ gather (run_from (suc a) s) (λ k. or_default (f (k ∷ [])) (pos 0) ∷ []))) (p a (omega arith) (omega arith))
    ∙ ap suc (count-run f (suc a) s t (omega arith) (λ k x y. p k (omega arith) (omega arith)) (λ k x y. q k (omega arith) (omega arith)))

-- flags with as many true ones agree
flags-agree : (f g : Grid) (S : ℕ) (x : FlagsUsed f S) (y : FlagsUsed g S) → x.n ≡ y.n → Agree (one_to S ∷ []) f g
flags-agree f g S x y e = each-run (λ k. f (k ∷ []) ≡ g (k ∷ [])) 1 S (λ k p q. go k p q (cases_lt x.n k))
  where
    go : (k : ℕ) → 1 ≤ k → k < 1 + S → (x.n < k) ⊎ (k ≤ x.n) → f (pos k ∷ []) ≡ g (pos k ∷ [])
    go k p q (inl l) = x.off k l (omega arith) ∙ sym (y.off k (omega arith) (omega arith))
    go k p q (inr l) = x.on k p l ∙ sym (y.on k p (omega arith))

module _ (r : Repr) (e : Domain) (ks : List Attribute) (right : Right r e) where
  abbrev S : ℕ
  S = slots_of_set ks e

  abbrev child : Reprs
  child = more_reprs r no_reprs

  abbrev inner_axes : List Axes
  inner_axes = axes_of_children child (e ∷ []) (one_to S ∷ [])

  -- ---- all slots in use

  abbrev explicit : Repr
  explicit = repr ReprKind.Explicit child

  abbrev asked_explicit : Cells → List (List Value) → Bool
  asked_explicit c vss = set_attributes_hold ks S

  abbrev HeldExplicit : Cells → Type 0
  HeldExplicit c = Held r e right S (all_slots S) [] no_own_tables asked_explicit (own_part ReprKind.Explicit c) (child_part ReprKind.Explicit c) S

  explicit-parts : (c : Cells) → canonical explicit (sets ks e) c ≡ true → Parts (explicit_layer ks e) child (own_part ReprKind.Explicit c) (child_part ReprKind.Explicit c)
  explicit-parts c h = parts-of (explicit_layer ks e) child (own_part ReprKind.Explicit c) (child_part ReprKind.Explicit c) h

  explicit-held : (c : Cells) → canonical explicit (sets ks e) c ≡ true → HeldExplicit c
  explicit-held c h =
      held r e right S (all_slots S) [] no_own_tables asked_explicit (own_part ReprKind.Explicit c) (child_part ReprKind.Explicit c) S (explicit-parts c h) (all_slots-used (own_part ReprKind.Explicit c) S)

  -- Canonical cells of sets with all slots in use.
  pub explicit-right : Right explicit (sets ks e)
  explicit-right = record {
    sound = λ c h. let x = explicit-held c h in (set_of x.vs, x.value);
    unique = λ c c' h h' q. ap (λ a. rows a c) (axes-of-layer (explicit_layer ks e) child)
        ∙ (held-once r e right S (all_slots S) [] no_own_tables asked_explicit (own_part ReprKind.Explicit c) (own_part ReprKind.Explicit c') (child_part ReprKind.Explicit c) (child_part ReprKind.Explicit c') S S (explicit-held c h) (explicit-held c' h') q).1
        ∙ sym (ap (λ a. rows a c') (axes-of-layer (explicit_layer ks e) child));
    tidies = λ c h. let p = explicit-parts c h in
        held-tidy r e right S (all_slots S) [] no_own_tables asked_explicit ks (own_part ReprKind.Explicit c) (child_part ReprKind.Explicit c) S (explicit-held c h) p.first p.attributes;
  }

  -- ---- up to a marker

  abbrev marked : Repr
  marked = repr ReprKind.ExplicitVarSizeWithMarker child

  abbrev asked_marker : Cells → List (List Value) → Bool
  asked_marker c vss = is_some_and (own_cell c []) (λ m. set_attributes_hold ks (natural m))

  abbrev HeldMarker : Grid → Cells → ℕ → Type 0
  HeldMarker f fs n = Held r e right S up_to_marker (fixed_table [] (up_to S) ∷ []) marker_table asked_marker (f ∷ []) fs n

  record Marked (f : Grid) (fs : Cells) : Type 0 where
    parts : Parts (marker_layer ks e) child (f ∷ []) fs
    n : ℕ
    cell : f [] ≡ Some (pos n)
    slots : HeldMarker f fs n

  marker-held : (f : Grid) (fs : Cells) → canonical marked (sets ks e) (f ∷ fs) ≡ true → Marked f fs
  marker-held f fs h =
      let p = parts-of (marker_layer ks e) child (f ∷ []) fs h in
      let m = marker-cell (f []) S (and-left (is_some_and (f []) (is_cell (up_to S))) true p.fit) in
      record {
        parts = p;
        n = m.0;
        cell = m.1;
        slots = held r e right S up_to_marker (fixed_table [] (up_to S) ∷ []) marker_table asked_marker (f ∷ []) fs m.0 p (marker-used (f ∷ []) S m.0 m.1 m.2);
      }

  marker-sound : (c : Cells) → canonical marked (sets ks e) c ≡ true → (v : Value) × (value_of_cells marked (sets ks e) c ≡ Some v)
  marker-sound [] h = cc
  marker-sound (f ∷ fs) h = let x = marker-held f fs h in let y = x.slots in (set_of y.vs, y.value)

  marker-unique : (c c' : Cells) → canonical marked (sets ks e) c ≡ true → canonical marked (sets ks e) c' ≡ true →
      value_of_cells marked (sets ks e) c ≡ value_of_cells marked (sets ks e) c' → rows (axes_of marked (sets ks e)) c ≡ rows (axes_of marked (sets ks e)) c'
  marker-unique [] c' h h' q = cc
  marker-unique (f ∷ fs) [] h h' q = cc
  marker-unique (f ∷ fs) (g ∷ gs) h h' q =
      let x = marker-held f fs h in
      let y = marker-held g gs h' in
      let o = held-once r e right S up_to_marker (fixed_table [] (up_to S) ∷ []) marker_table asked_marker (f ∷ []) (g ∷ []) fs gs x.n y.n x.slots y.slots q in
      ap (λ a. rows a (f ∷ fs)) (axes-of-layer (marker_layer ks e) child)
      ∙ ap (λ z. (or_default z (pos 0) ∷ []) ∷ rows inner_axes fs) (x.cell ∙ ap (λ n. Some (pos n)) o.0 ∙ sym y.cell)
      ∙ ap (λ l. row [] g ∷ l) o.1
      ∙ sym (ap (λ a. rows a (g ∷ gs)) (axes-of-layer (marker_layer ks e) child))

  marker-tidies : (c : Cells) → canonical marked (sets ks e) c ≡ true → tidy_cells marked (sets ks e) c ≡ true
  marker-tidies [] h = cc
  marker-tidies (f ∷ fs) h =
      let x = marker-held f fs h in
      let p = x.parts in
      held-tidy r e right S up_to_marker (fixed_table [] (up_to S) ∷ []) marker_table asked_marker ks (f ∷ []) fs x.n x.slots p.first
      (ap (λ o. is_some_and o (λ m. set_attributes_hold ks (natural m))) (sym x.cell) ∙ p.attributes)

  -- Canonical cells of sets in slots up to a marker.
  pub marker-right : Right marked (sets ks e)
  marker-right = record { sound = marker-sound; unique = marker-unique; tidies = marker-tidies }

  -- ---- where flags are true

  abbrev flagged : Repr
  flagged = repr ReprKind.ExplicitVarSizeWithFlags child

  abbrev asked_flags : Cells → List (List Value) → Bool
  asked_flags c vss = set_attributes_hold ks (count_true (own_row (one_to S ∷ []) c))

  abbrev flags_tables : Value → List (Option Slot) → Tables
  flags_tables v ss = flags_table (one_to S ∷ []) ss ∷ []

  record Flagged (f : Grid) (fs : Cells) : Type 0 where
    parts : Parts (flags_layer ks e) child (f ∷ []) fs
    flags : FlagsUsed f S
    slots : Held r e right S where_flagged (fixed_table (one_to S ∷ []) booleans ∷ []) flags_tables asked_flags (f ∷ []) fs flags.n

  flags-held : (f : Grid) (fs : Cells) → canonical flagged (sets ks e) (f ∷ fs) ≡ true → Flagged f fs
  flags-held f fs h =
      let p = parts-of (flags_layer ks e) child (f ∷ []) fs h in
      let u = flags-used f S (and-left (every_cell (one_to S ∷ []) (is_cell booleans) f) true p.fit) p.first in
      record {
        parts = p;
        flags = u;
        slots = held r e right S where_flagged (fixed_table (one_to S ∷ []) booleans ∷ []) flags_tables asked_flags (f ∷ []) fs u.n p u.slots;
      }

  flags-sound : (c : Cells) → canonical flagged (sets ks e) c ≡ true → (v : Value) × (value_of_cells flagged (sets ks e) c ≡ Some v)
  flags-sound [] h = cc
  flags-sound (f ∷ fs) h = let x = flags-held f fs h in let y = x.slots in (set_of y.vs, y.value)

  flags-unique : (c c' : Cells) → canonical flagged (sets ks e) c ≡ true → canonical flagged (sets ks e) c' ≡ true →
      value_of_cells flagged (sets ks e) c ≡ value_of_cells flagged (sets ks e) c' → rows (axes_of flagged (sets ks e)) c ≡ rows (axes_of flagged (sets ks e)) c'
  flags-unique [] c' h h' q = cc
  flags-unique (f ∷ fs) [] h h' q = cc
  flags-unique (f ∷ fs) (g ∷ gs) h h' q =
      let x = flags-held f fs h in
      let y = flags-held g gs h' in
      let u = x.flags in
      let v = y.flags in
      let o = held-once r e right S where_flagged (fixed_table (one_to S ∷ []) booleans ∷ []) flags_tables asked_flags (f ∷ []) (g ∷ []) fs gs u.n v.n x.slots y.slots q in
      ap (λ a. rows a (f ∷ fs)) (axes-of-layer (flags_layer ks e) child)
      ∙ ap (λ l. l ∷ rows inner_axes fs) (agree-row (one_to S ∷ []) f g (flags-agree f g S u v o.0))
      ∙ ap (λ l. row (one_to S ∷ []) g ∷ l) o.1
      ∙ sym (ap (λ a. rows a (g ∷ gs)) (axes-of-layer (flags_layer ks e) child))

  flags-tidies : (c : Cells) → canonical flagged (sets ks e) c ≡ true → tidy_cells flagged (sets ks e) c ≡ true
  flags-tidies [] h = cc
  flags-tidies (f ∷ fs) h =
      let x = flags-held f fs h in
      let p = x.parts in
      let u = x.flags in
      held-tidy r e right S where_flagged (fixed_table (one_to S ∷ []) booleans ∷ []) flags_tables asked_flags ks (f ∷ []) fs u.n x.slots p.first
      (ap (set_attributes_hold ks) (sym (count-run f 1 S u.n u.room (λ k a b. u.on k a (omega arith)) (λ k a b. u.off k (omega arith) (omega arith)))) ∙ p.attributes)

  -- Canonical cells of sets in slots with flags.
  pub flags-right : Right flagged (sets ks e)
  flags-right = record { sound = flags-sound; unique = flags-unique; tidies = flags-tidies }
