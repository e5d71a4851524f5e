-- What the calls by kind have to say of relations, in the form in which it is asked.
use Rattle.std.proofs.Common.{◌≡◌, ap, ◌∙◌, true, List, [], ◌∷◌, map, ℤ, Option, Some, option_map}
use Rattle.ess_semantics.specs.declared.words.ReprKind.{ReprKind}
use Rattle.ess_semantics.specs.Lists.{and_then, only_of}
use Rattle.ess_semantics.specs.Values.{Value, a_set, a_relation, node, of_list, items_of}
use Rattle.ess_semantics.specs.Collections.{holds}
use Rattle.ess_semantics.specs.Trees.{Reprs, repr}
use Rattle.ess_semantics.specs.Domains.{Attribute, Domains, tuples, relations, domain_list, member_list}
use Rattle.ess_semantics.specs.Tables.{Tables, truth_number}
use Rattle.ess_semantics.specs.Cells.{Axes}
use Rattle.ess_semantics.specs.Layers.{codes_of}
use Rattle.ess_semantics.specs.RelationLayers.{relation_from}
use Rattle.ess_semantics.specs.Representations.{layer}
use Rattle.ess_semantics.specs.Declarations.{axes_of}
use Rattle.ess_semantics.specs.OneLayer.{inner_values, layer_tables, layer_value}
use Rattle.ess_semantics.specs.Tidy.{over_axes}
use Rattle.ess_core.specs.declared.values.Val.{Val}
use Rattle.ess_core.specs.declared.tables.Table.{Table}
use Rattle.ess_core.specs.ValueViews.{pure_val}
use Rattle.ess_core.specs.TableViews.{pure_table}
use Rattle.ess_repr_laws.specs.Rooms.{Covered}
use Rattle.ess_repr_rows_laws.specs.Cutting.{first_items}
use Rattle.ess_repr_rows_laws.specs.RowLayers.{picked}
use Rattle.ess_repr_tables.specs.SlotViews.{pure_tables}
use Rattle.ess_repr_sets.specs.PartTables.{PartsFit}
use Rattle.ess_repr_relations.proofs.RelationLaws.{matrix-down, matrix-up, as-set-down, as-set-up}

-- The set of the tuples.
pub set_parts : (xs : List Val) (v : Value) → map pure_val xs ≡ node a_set (of_list (items_of v)) ∷ [] →
    (ks : List Attribute) (ds : Domains) →
    option_map (map pure_val) (Some xs) ≡ option_map (λ l. inner_values l v) (layer ReprKind.RelationAsSet (relations ks ds))
set_parts xs v is ks ds = ap Some is

module _ (ks : List Attribute) (ds : Domains) (v : Value) (ass : List Axes) (tss : List Tables) (rs : Reprs) where
  pub matrix_called : (ts : List Table) →
      map pure_table ts ≡ record {
        axes = map codes_of (domain_list ds);
        items = map (λ x. truth_number (holds (items_of v) x))
            (member_list (tuples ds));
      } ∷ [] →
      Covered (repr ReprKind.RelationAsMatrix rs) (relations ks ds) → PartsFit ReprKind.RelationAsMatrix rs (relations ks ds) v ass tss →
      option_map pure_tables (Some ts) ≡ layer_tables (repr ReprKind.RelationAsMatrix rs) (relations ks ds) v tss
  matrix_called ts q c h = ap Some q ∙ matrix-down ks ds v tss rs c

  pub set_called : (o : Option (List Table)) → option_map pure_tables o ≡ only_of tss →
      Covered (repr ReprKind.RelationAsSet rs) (relations ks ds) → PartsFit ReprKind.RelationAsSet rs (relations ks ds) v ass tss →
      option_map pure_tables o ≡ layer_tables (repr ReprKind.RelationAsSet rs) (relations ks ds) v tss
  set_called o q c h = q ∙ as-set-down ks ds v ass tss rs c h

module _ (ks : List Attribute) (ds : Domains) (ts : Tables) (vs : List Value) (o : Option Val) (rs : Reprs) where
  pub matrix_meant : (is : List ℤ) → is ≡ first_items ts →
      option_map pure_val o ≡ option_map (λ xs. node a_relation (of_list xs)) (picked is (member_list (tuples ds))) →
      Covered (repr ReprKind.RelationAsMatrix rs) (relations ks ds) →
      over_axes [] (axes_of (repr ReprKind.RelationAsMatrix rs) (relations ks ds)) ts ≡ true →
      option_map pure_val o ≡ layer_value ReprKind.RelationAsMatrix (relations ks ds) ts vs
  matrix_meant is p q c h = q ∙ ap (λ l. option_map (λ xs. node a_relation (of_list xs)) (picked l (member_list (tuples ds)))) p
      ∙ matrix-up ks ds ts vs rs c h

  pub set_meant : option_map pure_val o ≡ and_then (only_of vs) relation_from →
      Covered (repr ReprKind.RelationAsSet rs) (relations ks ds) →
      over_axes [] (axes_of (repr ReprKind.RelationAsSet rs) (relations ks ds)) ts ≡ true →
      option_map pure_val o ≡ layer_value ReprKind.RelationAsSet (relations ks ds) ts vs
  set_meant q c h = q ∙ as-set-up ks ds ts vs

-- What is asked of the value of the tables.
abbrev pub UpOfRelation : ReprKind → Domains → Tables → List Value → Option Val → Type 0
UpOfRelation k ds ts vs o = (ks : List Attribute) (rs : Reprs) → Covered (repr k rs) (relations ks ds) →
    over_axes [] (axes_of (repr k rs) (relations ks ds)) ts ≡ true →
    option_map pure_val o ≡ layer_value k (relations ks ds) ts vs
