-- What the calls of one kind say of relations and partitions, over the whole domain.
use Rattle.std.proofs.Common.{◌≡◌, sym, ap, ◌∙◌, subst, true, List, [], Option}
use Rattle.ess_semantics.specs.declared.words.ReprKind.{ReprKind}
use Rattle.ess_semantics.specs.Values.{Value}
use Rattle.ess_semantics.specs.Trees.{Reprs, repr}
use Rattle.ess_semantics.specs.Domains.{Domain, relations, partitions}
use Rattle.ess_semantics.specs.Domains.{Attribute as PureAttribute}
use Rattle.ess_semantics.specs.Tables.{Tables}
use Rattle.ess_semantics.specs.Cells.{Axes}
use Rattle.ess_semantics.specs.Declarations.{axes_of}
use Rattle.ess_semantics.specs.Tidy.{over_axes}
use Rattle.ess_semantics.specs.OneLayer.{layer_tables, layer_value}
use Rattle.ess_eval_domains.specs.declared.closed.Attribute.{Attribute}
use Rattle.ess_eval_domains.specs.declared.closed.Closed.{Closed}
use Rattle.ess_eval_domains.specs.declared.closed.Closed.TheVariants as variant
use Rattle.ess_eval_domains.specs.ClosedViews.{pure_attributes, pure_closed, pure_closeds}
use Rattle.ess_eval_domains.proofs.ClosedEquations.{pure_closed_relation, pure_closed_partition}
use Rattle.ess_repr_laws.specs.Rooms.{Covered}
use Rattle.ess_repr_sets.specs.PartTables.{PartsFit}
use Rattle.ess_repr_relations.specs.PartNumbers.{over_relations}

-- The tables o of one layer of a member v of d.
abbrev pub TablesOver : ReprKind → Domain → Value → List Tables → Option Tables → Type 0
TablesOver k d v tss o = (ass : List Axes) (rs : Reprs) → Covered (repr k rs) d → PartsFit k rs d v ass tss →
    o ≡ layer_tables (repr k rs) d v tss

-- The value o that the tables ts stand for, vs those of the slots.
abbrev pub ValueOver : ReprKind → Domain → Tables → List Value → Option Value → Type 0
ValueOver k d ts vs o = (rs : Reprs) → Covered (repr k rs) d → over_axes [] (axes_of (repr k rs) d) ts ≡ true → o ≡ layer_value k d ts vs

-- ds are the components.
module _ (k : ReprKind) (dom : Closed) (ds cs : List Closed) (ks : List Attribute) (is : dom ≡ variant.Relation ks cs) (get : ds ≡ cs) where
  pure-relation : pure_closed dom ≡ relations (pure_attributes ks) (pure_closeds ds)
  pure-relation = ap pure_closed (is ∙ ap (λ x. variant.Relation ks x) (sym get)) ∙ pure_closed_relation ks ds

  -- The tables of a relation.
  pub relation_tables_over : (v : Value) (tss : List Tables) (o : Option Tables) → ((ks : List PureAttribute) →
      TablesOver k (relations ks (pure_closeds ds)) v tss o) →
      (ass : List Axes) (rs : Reprs) → Covered (repr k rs) (pure_closed dom) → PartsFit k rs (pure_closed dom) v ass tss →
      o ≡ over_relations (pure_closed dom) (layer_tables (repr k rs) (pure_closed dom) v tss)
  relation_tables_over v tss o q ass rs h p =
      q (pure_attributes ks) ass rs (subst (Covered (repr k rs)) pure-relation h) (subst (λ x. PartsFit k rs x v ass tss) pure-relation p)
      ∙ ap (λ x. over_relations x (layer_tables (repr k rs) x v tss)) (sym pure-relation)

  -- The relation that tables stand for.
  pub relation_value_over : (ts : Tables) (vs : List Value) (o : Option Value) → ((ks : List PureAttribute) →
      ValueOver k (relations ks (pure_closeds ds)) ts vs o) →
      (rs : Reprs) → Covered (repr k rs) (pure_closed dom) → over_axes [] (axes_of (repr k rs) (pure_closed dom)) ts ≡ true →
      o ≡ over_relations (pure_closed dom) (layer_value k (pure_closed dom) ts vs)
  relation_value_over ts vs o q rs h p =
      q (pure_attributes ks) rs (subst (Covered (repr k rs)) pure-relation h) (subst (λ x. over_axes []
      (axes_of (repr k rs) x) ts ≡ true) pure-relation p)
      ∙ ap (λ x. over_relations x (layer_value k x ts vs)) (sym pure-relation)

-- d is the domain of the members.
module _ (k : ReprKind) (dom d c : Closed) (ks : List Attribute) (is : dom ≡ variant.Partition ks c) (get : d ≡ c) where
  pure-partition : pure_closed dom ≡ partitions (pure_attributes ks) (pure_closed d)
  pure-partition = ap pure_closed (is ∙ ap (λ x. variant.Partition ks x) (sym get)) ∙ pure_closed_partition ks d

  -- The tables of a partition.
  pub partition_tables_over : (v : Value) (tss : List Tables) (o : Option Tables) → ((ks : List PureAttribute) →
      TablesOver k (partitions ks (pure_closed d)) v tss o) →
      (ass : List Axes) (rs : Reprs) → Covered (repr k rs) (pure_closed dom) → PartsFit k rs (pure_closed dom) v ass tss →
      o ≡ over_relations (pure_closed dom) (layer_tables (repr k rs) (pure_closed dom) v tss)
  partition_tables_over v tss o q ass rs h p =
      q (pure_attributes ks) ass rs (subst (Covered (repr k rs)) pure-partition h) (subst (λ x. PartsFit k rs x v ass tss) pure-partition p)
      ∙ ap (λ x. over_relations x (layer_tables (repr k rs) x v tss)) (sym pure-partition)
