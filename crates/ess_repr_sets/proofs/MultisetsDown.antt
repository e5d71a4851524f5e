-- The canonical tables of multisets, kind by kind, under what callers know.
use Rattle.std.proofs.Common.{◌≡◌, sym, ap, ◌∙◌, List, [], ◌∷◌, map, length, Some}
use Rattle.ess_semantics.specs.declared.words.ReprKind.{ReprKind}
use Rattle.ess_semantics.specs.Lists.{zip}
use Rattle.ess_semantics.specs.Values.{Value, items_of}
use Rattle.ess_semantics.specs.Collections.{sorted_once}
use Rattle.ess_semantics.specs.Trees.{Reprs, repr, no_reprs, more_reprs}
use Rattle.ess_semantics.specs.Domains.{Attribute, Domain, msets, member_list}
use Rattle.ess_semantics.specs.Sizes.{slots_of_mset}
use Rattle.ess_semantics.specs.Tables.{Tables, row_of}
use Rattle.ess_semantics.specs.Cells.{Axes}
use Rattle.ess_semantics.specs.Layers.{codes_of}
use Rattle.ess_semantics.specs.MultisetLayers.{occurs}
use Rattle.ess_semantics.specs.Declarations.{axes_of}
use Rattle.ess_semantics.specs.OneLayer.{layer_tables}
use Rattle.ess_repr_laws.specs.Rooms.{Covered}
use Rattle.ess_repr_laws.proofs.AxesOfTables.{axes-differ}
use Rattle.ess_repr_rows_laws.specs.RowLayers.{marked_tables, counted_tables}
use Rattle.ess_repr_rows_laws.proofs.SlotLayers.{repetition-rows, counts-rows}
use Rattle.ess_repr_rows_laws.proofs.OwnLayers.{mset-occurrence-rows}
use Rattle.ess_repr_sets.specs.PartTables.{PartsFit}
use Rattle.ess_repr_sets.proofs.OverDeclared.{each-over, somes-only}

module _ (ks : List Attribute) (e : Domain) (v : Value) (ass : List Axes) (tss : List Tables) where
  -- By how often the members occur.
  pub counts-down : (rs : Reprs) → Covered (repr ReprKind.MSetOccurrence rs) (msets ks e) →
      Some (row_of (codes_of e) (map (occurs v) (member_list e)) ∷ []) ≡ layer_tables (repr ReprKind.MSetOccurrence rs) (msets ks e) v tss
  counts-down no_reprs c = let d = axes-differ (repr ReprKind.MSetOccurrence no_reprs) (msets ks e) c in sym (mset-occurrence-rows ks e d.0 v tss)
  counts-down (more_reprs r rs) c = absurd c

  -- Up to a marker.
  pub repetition-down : (rs : Reprs) → Covered (repr ReprKind.MSetExplicitWithRepetition rs) (msets ks e) → PartsFit ReprKind.MSetExplicitWithRepetition rs (msets ks e) v ass tss →
      Some (marked_tables (slots_of_mset ks e) ass tss) ≡ layer_tables (repr ReprKind.MSetExplicitWithRepetition rs) (msets ks e) v tss
  repetition-down no_reprs c h = absurd c
  repetition-down (more_reprs r (more_reprs s rs)) c h = absurd c
  repetition-down (more_reprs r no_reprs) c h =
      ap (λ a. Some (marked_tables (slots_of_mset ks e) a tss)) (sym h.axes)
      ∙ sym (repetition-rows r ks e v tss (axes-differ r e c) (each-over (axes_of r e) ass tss h.axes h.over) (h.count ∙ ap length (somes-only (items_of v))))

  -- With how often the member of each slot occurs.
  pub counted-down : (rs : Reprs) → Covered (repr ReprKind.MSetExplicitWithFlags rs) (msets ks e) → PartsFit ReprKind.MSetExplicitWithFlags rs (msets ks e) v ass tss →
      Some (counted_tables (slots_of_mset ks e) ass (zip (map (occurs v) (sorted_once (items_of v))) tss)) ≡ layer_tables (repr ReprKind.MSetExplicitWithFlags rs) (msets ks e) v tss
  counted-down no_reprs c h = absurd c
  counted-down (more_reprs r (more_reprs s rs)) c h = absurd c
  counted-down (more_reprs r no_reprs) c h =
      ap (λ a. Some (counted_tables (slots_of_mset ks e) a (zip (map (occurs v) (sorted_once (items_of v))) tss))) (sym h.axes)
      ∙ sym (counts-rows r ks e v tss (axes-differ r e c) (each-over (axes_of r e) ass tss h.axes h.over))
