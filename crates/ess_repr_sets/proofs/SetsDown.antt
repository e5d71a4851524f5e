-- The canonical tables of sets, kind by kind, under what callers know.
use Rattle.std.proofs.Common.{◌≡◌, refl, sym, ap, ◌∙◌, ℕ, zero, suc, ◌-◌, List, [], ◌∷◌, ◌++◌, map, length, take, replicate, ℤ, Option, Some, None, arith}
use Rattle.ess_semantics.specs.declared.words.ReprKind.{ReprKind}
use Rattle.ess_semantics.specs.Values.{Value, items_of}
use Rattle.ess_semantics.specs.Trees.{Reprs, repr, no_reprs, more_reprs}
use Rattle.ess_semantics.specs.Numbers.{one_to}
use Rattle.ess_semantics.specs.Domains.{Attribute, Domain, sets, member_list}
use Rattle.ess_semantics.specs.Sizes.{slots_of_set}
use Rattle.ess_semantics.specs.Collections.{holds}
use Rattle.ess_semantics.specs.Tables.{Tables, code, truth_number, row_of}
use Rattle.ess_semantics.specs.Cells.{Axes, cells_of, tables_over}
use Rattle.ess_semantics.specs.Layers.{codes_of}
use Rattle.ess_semantics.specs.SetLayers.{dummy_of, members_and_dummies}
use Rattle.ess_semantics.specs.Declarations.{axes_of}
use Rattle.ess_semantics.specs.OneLayer.{layer_tables}
use Rattle.ess_semantics.proofs.Tests.{run-length}
use Rattle.ess_repr_laws.specs.Rooms.{Covered}
use Rattle.ess_repr_laws.proofs.AxesOfTables.{axes-differ, run-differs}
use Rattle.ess_repr_rows_laws.specs.Stacking.{fitted}
use Rattle.ess_repr_rows_laws.specs.RowLayers.{slot_tables, marked_tables, flagged_slot_tables}
use Rattle.ess_repr_rows_laws.proofs.Blocks.{map-length, fitted-zero, fitted-cons}
use Rattle.ess_repr_rows_laws.proofs.SlotLayers.{row-fitted, explicit-rows, marker-rows, flags-rows}
use Rattle.ess_repr_rows_laws.proofs.OwnLayers.{occurrence-rows}
use Rattle.ess_repr_sets.specs.PartTables.{PartsFit}
use Rattle.ess_repr_sets.specs.SetRows.{filled_with, dummy_tables}
use Rattle.ess_repr_sets.proofs.OverDeclared.{each-over, somes-only}

module _ (ks : List Attribute) (e : Domain) (v : Value) (ass : List Axes) (tss : List Tables) where
  -- By the members that occur.
  pub occurrence-down : (rs : Reprs) → Covered (repr ReprKind.Occurrence rs) (sets ks e) →
      Some (row_of (codes_of e) (map (λ x. truth_number (holds (items_of v) x)) (member_list e)) ∷ []) ≡ layer_tables (repr ReprKind.Occurrence rs) (sets ks e) v tss
  occurrence-down no_reprs c = let d = axes-differ (repr ReprKind.Occurrence no_reprs) (sets ks e) c in sym (occurrence-rows ks e d.0 v tss)
  occurrence-down (more_reprs r rs) c = absurd c

  -- With the members in all slots.
  pub explicit-down : (rs : Reprs) → Covered (repr ReprKind.Explicit rs) (sets ks e) → PartsFit ReprKind.Explicit rs (sets ks e) v ass tss →
      Some (slot_tables (slots_of_set ks e) ass tss) ≡ layer_tables (repr ReprKind.Explicit rs) (sets ks e) v tss
  explicit-down no_reprs c h = absurd c
  explicit-down (more_reprs r (more_reprs s rs)) c h = absurd c
  explicit-down (more_reprs r no_reprs) c h =
      ap (λ a. Some (slot_tables (slots_of_set ks e) a tss)) (sym h.axes)
      ∙ sym (explicit-rows r ks e v tss (axes-differ r e c) (each-over (axes_of r e) ass tss h.axes h.over) (h.count ∙ ap length (somes-only (items_of v))))

  -- Up to a marker.
  pub marker-down : (rs : Reprs) → Covered (repr ReprKind.ExplicitVarSizeWithMarker rs) (sets ks e) → PartsFit ReprKind.ExplicitVarSizeWithMarker rs (sets ks e) v ass tss →
      Some (marked_tables (slots_of_set ks e) ass tss) ≡ layer_tables (repr ReprKind.ExplicitVarSizeWithMarker rs) (sets ks e) v tss
  marker-down no_reprs c h = absurd c
  marker-down (more_reprs r (more_reprs s rs)) c h = absurd c
  marker-down (more_reprs r no_reprs) c h =
      ap (λ a. Some (marked_tables (slots_of_set ks e) a tss)) (sym h.axes)
      ∙ sym (marker-rows r ks e v tss (axes-differ r e c) (each-over (axes_of r e) ass tss h.axes h.over) (h.count ∙ ap length (somes-only (items_of v))))

  -- With flags.
  pub flags-down : (rs : Reprs) → Covered (repr ReprKind.ExplicitVarSizeWithFlags rs) (sets ks e) → PartsFit ReprKind.ExplicitVarSizeWithFlags rs (sets ks e) v ass tss →
      Some (flagged_slot_tables (slots_of_set ks e) ass tss) ≡ layer_tables (repr ReprKind.ExplicitVarSizeWithFlags rs) (sets ks e) v tss
  flags-down no_reprs c h = absurd c
  flags-down (more_reprs r (more_reprs s rs)) c h = absurd c
  flags-down (more_reprs r no_reprs) c h =
      ap (λ a. Some (flagged_slot_tables (slots_of_set ks e) a tss)) (sym h.axes)
      ∙ sym (flags-rows r ks e v tss (axes-differ r e c) (each-over (axes_of r e) ass tss h.axes h.over) (h.count ∙ ap length (somes-only (items_of v))))

-- ---- with dummies

fitted-all : (n : ℕ) (m : ℤ) → fitted n (replicate n m) ≡ replicate n m
fitted-all zero m = fitted-zero []
fitted-all (suc n) m = fitted-cons m (replicate n m) n ∙ ap (λ l. m ∷ l) (fitted-all n m)

fitted-with : (n : ℕ) (m : ℤ) (xs : List ℤ) → fitted n (xs ++ replicate (n - length xs) m) ≡ filled_with n m xs
fitted-with zero m xs =
    let q : 0 - length xs ≡ 0 = omega arith in
    fitted-zero (xs ++ replicate (0 - length xs) m) ∙ ap (λ k. replicate k m) (sym q)
fitted-with (suc n) m [] =
    let q : suc n - 0 ≡ suc n = omega arith in
    ap (λ k. fitted (suc n) (replicate k m)) q ∙ fitted-all (suc n) m ∙ ap (λ k. replicate k m) (sym q)
fitted-with (suc n) m (x ∷ xs) =
    let q : suc n - suc (length xs) ≡ n - length xs = omega arith in
    ap (λ k. fitted (suc n) (x ∷ (xs ++ replicate k m))) q ∙ fitted-cons x (xs ++ replicate (n - length xs) m) n
    ∙ ap (λ l. x ∷ l) (fitted-with n m xs) ∙ ap (λ k. x ∷ (take n xs ++ replicate k m)) (sym q)

-- The members, and the dummy behind them.
pub dummy-down : (ks : List Attribute) (e : Domain) (v : Value) (tss : List Tables) (rs : Reprs) → Covered (repr ReprKind.ExplicitVarSizeWithDummy rs) (sets ks e) →
    Some (dummy_tables (slots_of_set ks e) e v) ≡ layer_tables (repr ReprKind.ExplicitVarSizeWithDummy rs) (sets ks e) v tss
dummy-down ks e v tss (more_reprs r rs) c = absurd c
dummy-down ks e v tss no_reprs c = go (dummy_of e)
  where
    n : ℕ
    n = slots_of_set ks e

    own : Option ℤ → Tables
    own o = elim o [ None ↦ [] | Some m ↦ members_and_dummies n m v ∷ [] ]

    go : (o : Option ℤ) →
        Some (elim o as (λ o. Tables) [ None ↦ [] | Some m ↦ row_of (one_to n) (filled_with n m (map code (items_of v))) ∷ [] ])
        ≡ Some (tables_over ((one_to n ∷ []) ∷ []) (cells_of (own o) ++ []))
    go None = refl
    go (Some m) =
        sym (ap (λ l. Some (row_of (one_to n) l ∷ []))
        (row-fitted (one_to n) (run-differs 1 n) (map code (items_of v) ++ replicate (n - length (items_of v)) m)
        ∙ ap (λ k. fitted k (map code (items_of v) ++ replicate (n - length (items_of v)) m)) (run-length 1 n)
        ∙ ap (λ k. fitted n (map code (items_of v) ++ replicate (n - k) m)) (sym (map-length code (items_of v)))
        ∙ fitted-with n m (map code (items_of v))))
