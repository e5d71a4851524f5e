-- One layer of relations, down and up, under what callers know.
use Rattle.std.proofs.Common.{◌≡◌, refl, sym, true, List, [], ◌∷◌, map, length, Some}
use Rattle.std.proofs.Common.{option_map}
use Rattle.ess_semantics.specs.declared.words.ReprKind.{ReprKind}
use Rattle.ess_semantics.specs.Lists.{and_then, only_of}
use Rattle.ess_semantics.specs.Values.{Value, a_relation, node, of_list, items_of}
use Rattle.ess_semantics.specs.Collections.{holds}
use Rattle.ess_semantics.specs.Trees.{Reprs, repr, no_reprs, more_reprs}
use Rattle.ess_semantics.specs.Domains.{Attribute, Domains, tuples, relations, domain_list, member_list}
use Rattle.ess_semantics.specs.Sizes.{child_set}
use Rattle.ess_semantics.specs.Tables.{Tables, truth_number}
use Rattle.ess_semantics.specs.Cells.{Axes}
use Rattle.ess_semantics.specs.Layers.{codes_of}
use Rattle.ess_semantics.specs.RelationLayers.{relation_from}
use Rattle.ess_semantics.specs.Declarations.{axes_of}
use Rattle.ess_semantics.specs.OneLayer.{layer_tables, layer_value}
use Rattle.ess_semantics.specs.Tidy.{over_axes}
use Rattle.ess_repr_laws.specs.Rooms.{Covered}
use Rattle.ess_repr_laws.proofs.Arguments.{tuple-arguments}
use Rattle.ess_repr_laws.proofs.AxesOfTables.{axes-differ}
use Rattle.ess_repr_laws.proofs.CanonicalForms.{atoms-listed}
use Rattle.ess_repr_laws.proofs.CanonicalPlaces.{AllOf}
use Rattle.ess_repr_rows_laws.specs.Cutting.{first_items}
use Rattle.ess_repr_rows_laws.specs.RowLayers.{picked}
use Rattle.ess_repr_rows_laws.proofs.LayerValues.{relation-matrix-value}
use Rattle.ess_repr_rows_laws.proofs.OwnLayers.{relation-matrix-rows}
use Rattle.ess_repr_rows_laws.proofs.ArgumentLayers.{relation-as-set-rows}
use Rattle.ess_repr_sets.specs.PartTables.{PartsFit}
use Rattle.ess_repr_sets.proofs.OverDeclared.{first-over, rest-over, each-over}

-- ---- by the tuples that occur

module _ (ks : List Attribute) (ds : Domains) where
  pub matrix-down : (v : Value) (tss : List Tables) (rs : Reprs) → Covered (repr ReprKind.RelationAsMatrix rs) (relations ks ds) →
      Some (record {
        axes = map codes_of (domain_list ds);
        items = map (λ x. truth_number (holds (items_of v) x))
            (member_list (tuples ds));
      } ∷ []) ≡
      layer_tables (repr ReprKind.RelationAsMatrix rs) (relations ks ds) v tss
  matrix-down v tss (more_reprs r rs) c = absurd c
  matrix-down v tss no_reprs c =
      let d = axes-differ (repr ReprKind.RelationAsMatrix no_reprs) (relations ks ds) c in
      sym (relation-matrix-rows ks ds (tuple-arguments ds (atoms-listed ds c)) d.0 v tss)

  pub matrix-up : (ts : Tables) (vs : List Value) (rs : Reprs) → Covered (repr ReprKind.RelationAsMatrix rs) (relations ks ds) →
      over_axes [] (axes_of (repr ReprKind.RelationAsMatrix rs) (relations ks ds)) ts ≡ true →
      option_map (λ xs. node a_relation (of_list xs)) (picked (first_items ts)
      (member_list (tuples ds))) ≡ layer_value ReprKind.RelationAsMatrix (relations ks ds) ts vs
  matrix-up ts vs (more_reprs r rs) c h = absurd c
  matrix-up ts vs no_reprs c h = go ts h
    where
      a : Axes
      a = map codes_of (domain_list ds)

      go : (ts : Tables) → over_axes [] (a ∷ []) ts ≡ true →
          option_map (λ xs. node a_relation (of_list xs)) (picked (first_items ts)
          (member_list (tuples ds))) ≡ layer_value ReprKind.RelationAsMatrix (relations ks ds) ts vs
      go [] h = cc
      go (t ∷ u ∷ ts) h = let z = rest-over a [] t (u ∷ ts) h in cc
      go (t ∷ []) h =
          let d = axes-differ (repr ReprKind.RelationAsMatrix no_reprs) (relations ks ds) c in
          sym (relation-matrix-value ks ds t vs (tuple-arguments ds (atoms-listed ds c)) d.0 (first-over a [] t [] h))

  -- ---- as a set

  pub as-set-down : (v : Value) (ass : List Axes) (tss : List Tables) (rs : Reprs) →
      Covered (repr ReprKind.RelationAsSet rs) (relations ks ds) →
      PartsFit ReprKind.RelationAsSet rs (relations ks ds) v ass tss →
      only_of tss ≡ layer_tables (repr ReprKind.RelationAsSet rs) (relations ks ds) v tss
  as-set-down v ass tss no_reprs c h = absurd c
  as-set-down v ass tss (more_reprs r (more_reprs s rs)) c h = absurd c
  as-set-down v ass tss (more_reprs r no_reprs) c h = go tss h.count (each-over (axes_of r (child_set ks ds)) ass tss h.axes h.over)
    where
      go : (tss : List Tables) → length tss ≡ 1 → AllOf tss (λ ts. over_axes [] (axes_of r (child_set ks ds)) ts ≡ true) →
          only_of tss ≡ layer_tables (repr ReprKind.RelationAsSet (more_reprs r no_reprs)) (relations ks ds) v tss
      go [] e o = cc
      go (ts ∷ us ∷ tss) e o = cc
      go (ts ∷ []) e o = sym (relation-as-set-rows r v ts ks ds (axes-differ r (child_set ks ds) c) o.0)

  pub as-set-up : (ts : Tables) (vs : List Value) →
      and_then (only_of vs) relation_from ≡ layer_value ReprKind.RelationAsSet (relations ks ds) ts vs
  as-set-up ts vs = refl
