-- One layer of a function over a closed domain: what the code computes by forms is what the definitions say of the layer.
use Rattle.std.proofs.Common.{◌≡◌, sym, ap, ◌∙◌, subst, true, List, [], Option, option_map}
use Rattle.ess_semantics.specs.declared.words.ReprKind.{ReprKind}
use Rattle.ess_semantics.specs.Lists.{and_then}
use Rattle.ess_semantics.specs.Values.{Value}
use Rattle.ess_semantics.specs.Trees.{Reprs, repr}
use Rattle.ess_semantics.specs.Domains.{functions}
use Rattle.ess_semantics.specs.Tables.{Tables}
use Rattle.ess_semantics.specs.Cells.{Axes}
use Rattle.ess_semantics.specs.Representations.{layer}
use Rattle.ess_semantics.specs.Declarations.{axes_of}
use Rattle.ess_semantics.specs.Tidy.{over_axes}
use Rattle.ess_semantics.specs.OneLayer.{inner_values, layer_tables, layer_value}
use Rattle.ess_eval_domains.specs.declared.closed.Attribute.{Attribute}
use Rattle.ess_eval_domains.specs.declared.closed.Closed.{Closed}
use Rattle.ess_eval_domains.specs.declared.closed.Closed.TheVariants as variant
use Rattle.ess_eval_domains.specs.ClosedViews.{pure_attributes, pure_closed}
use Rattle.ess_eval_domains.proofs.ClosedEquations.{pure_closed_function}
use Rattle.ess_repr_laws.specs.Rooms.{Covered}
use Rattle.ess_repr_functions.specs.FunctionForms.{form_of, over_functions}
use Rattle.ess_repr_functions.specs.FunctionRows.{parts_by, tables_by, value_by}
use Rattle.ess_repr_functions.specs.FunctionPremises.{children_of, ChildOver}
use Rattle.ess_repr_functions.proofs.FunctionLaws.{parts-layer, tables-layer, value-layer}

-- d is the domain of the arguments.
module _ (k : ReprKind) (dom e d c : Closed) (ks : List Attribute) (is : dom ≡ variant.Function ks e c) (get : d ≡ e) where
  pure : pure_closed dom ≡ functions (pure_attributes ks) (pure_closed d) (pure_closed c)
  pure = ap pure_closed (is ∙ ap (λ x. variant.Function ks x c) (sym get)) ∙ pure_closed_function ks d c

  -- The parts of a function.
  pub parts_over : (v : Value) (o : Option (List Value)) → o ≡ option_map (λ f. parts_by f (pure_closed d) v) (form_of k (pure_closed d)) →
      o ≡ over_functions (pure_closed dom) (option_map (λ l. inner_values l v) (layer k (pure_closed dom)))
  parts_over v o q =
      q ∙ parts-layer k (pure_attributes ks) (pure_closed d) (pure_closed c) v
      ∙ ap (λ x. over_functions x (option_map (λ l. inner_values l v) (layer k x))) (sym pure)

  -- Its tables.
  pub tables_over : (v : Value) (ass : List Axes) (tss : List Tables) (o : Option Tables) (rs : Reprs) →
      o ≡ option_map (λ f. tables_by f (pure_closed d) v ass tss) (form_of k (pure_closed d)) →
      Covered (repr k rs) (pure_closed dom) → ChildOver rs (children_of k (pure_closed dom)) ass tss →
      o ≡ over_functions (pure_closed dom) (layer_tables (repr k rs) (pure_closed dom) v tss)
  tables_over v ass tss o rs q h p =
      q ∙ tables-layer k rs (pure_attributes ks) (pure_closed d) (pure_closed c) v ass tss (subst (Covered (repr k rs)) pure h)
      (subst (λ x. ChildOver rs (children_of k x) ass tss) pure p)
      ∙ ap (λ x. over_functions x (layer_tables (repr k rs) x v tss)) (sym pure)

  -- The function that tables stand for.
  pub value_over : (ts : Tables) (vs : List Value) (o : Option Value) (rs : Reprs) →
      o ≡ and_then (form_of k (pure_closed d)) (λ f. value_by f (pure_closed d) ts vs) →
      Covered (repr k rs) (pure_closed dom) → over_axes [] (axes_of (repr k rs) (pure_closed dom)) ts ≡ true →
      o ≡ over_functions (pure_closed dom) (layer_value k (pure_closed dom) ts vs)
  value_over ts vs o rs q h p =
      q ∙ value-layer k rs (pure_attributes ks) (pure_closed d) (pure_closed c) ts vs (subst (Covered (repr k rs)) pure h)
      (subst (λ x. over_axes [] (axes_of (repr k rs) x) ts ≡ true) pure p)
      ∙ ap (λ x. over_functions x (layer_value k x ts vs)) (sym pure)
