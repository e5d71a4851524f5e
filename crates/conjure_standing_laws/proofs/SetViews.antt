-- The tables of finds that are sets of any nesting have in a model the marks and sizes of axes that are declared of them, so that they
-- keep what is shown for the names of such finds.
use Rattle.std.proofs.Common.{◌≡◌, refl, sym, ap, ◌∙◌, subst, ℕ, Bool, true, false, List, [], ◌∷◌, map, Option, Some, None, option_map}
use Rattle.ess_semantics.specs.Lists.{append_all, or_default}
use Rattle.ess_semantics.specs.Values.{Text}
use Rattle.ess_semantics.specs.Contexts.{Each}
use Rattle.ess_semantics.specs.DeclaredTables.{TableDecl}
use Rattle.ess_semantics.specs.Names.{keys}
use Rattle.ess_semantics.specs.Trees.{Repr, Ex, name_ex, seen_ex, no_exs, Dom, name_dom, set_dom, Stm}
use Rattle.ess_semantics.specs.Kinds.{fits}
use Rattle.ess_semantics.specs.TableNames.{Named, table_names, named_tables}
use Rattle.ess_semantics.specs.Prepared.{prepared}
use Rattle.ess_semantics.specs.Judgements.{fault}
use Rattle.ess_semantics.specs.Plans.{Options, givens_side, finds_side, Plan, size_plan, value_plan, plans, plans_for}
use Rattle.ess_semantics.specs.ModelTrees.{Model, all_decls}
use Rattle.ess_semantics.specs.ModelMeaning.{declaration_of}
use Rattle.conjure_laws.specs.Members.{In}
use Rattle.conjure_laws.specs.Premises.{is_on}
use Rattle.conjure_laws.specs.ModelsOfSets.{axis_of_set}
use Rattle.conjure_laws.proofs.Lists.{at-item, in-filtered, each-map}
use Rattle.conjure_laws.proofs.SetPlans.{Occ}
use Rattle.conjure_model_laws.specs.Shown.{Shows, in_place, shows_of}
use Rattle.ess_repr_declare_laws.specs.DeclaredTrees.{axis_dom}
use Rattle.ess_nested_laws.specs.NestedDomains.{is_nested_dom}
use Rattle.ess_nested_laws.proofs.NestedForms.{kept-form}
use Rattle.ess_seen_laws.specs.Seen.{Kind, Keeps}
use Rattle.ess_mixed_models_laws.specs.ess_setwise_laws.Laws.{IsSetView}
use Rattle.ess_mixed_models_laws.specs.MixedSpecifications.{kinds, is_nested_plan, are_mixed_statements, types_come_first, have_bounds}
use Rattle.ess_mixed_models_laws.specs.MixedModels.{mixed_decl, mixed_decls}
use Rattle.ess_mixed_models_laws.proofs.NamedKinds.{no-yes}
use Rattle.ess_mixed_models_laws.proofs.MixedPlans.{PlanFact, size_fact, atom_fact, set_fact, nested_fact, all-facts, set-single, shape-single}
use Rattle.ess_mixed_models_laws.proofs.MixedCells.{declared}
use Rattle.ess_mixed_views_laws.proofs.NestedNames.{NestedAmong}
use Rattle.ess_mixed_views_laws.proofs.AxisSizes.{axis_size}
use Rattle.ess_mixed_views_laws.proofs.KeptTables.{IsSized, AreSized, tables-keep}
use Rattle.conjure_standing_laws.specs.NestedFinds.{tables_by}
use Rattle.conjure_standing_laws.proofs.NestedFacts.{nested-declared}
use Rattle.conjure_standing_laws.proofs.FilledTables.{size_of, sized_cells}
use Rattle.conjure_standing_laws.proofs.ScalarsHeld.{all-same}
use Rattle.conjure_standing_laws.proofs.ShownSets.{set-is-shown}

-- The domain, representation and tables of a plan.
abbrev PlanSized : (Text → Option (Bool × List ℕ)) → Plan → Type 0
PlanSized cells (size_plan t n) = Unit {0}
PlanSized cells (value_plan f x r d ns) = AreSized cells r d (keys ns)

-- The tables of a representation are sized so, where each is declared under its name.
tables-sized : (ds : List TableDecl) (r : Repr) (d : Dom) (ns : List Text) →
    Each (tables_by ns r d) (λ t. declaration_of ds t.name ≡ Some t) → AreSized (sized_cells ds) r d ns
tables-sized ds r d ns w =
    each-map (tables_by ns r d) (λ t. declaration_of ds t.name ≡ Some t) (IsSized (sized_cells ds)) (λ t e. ap (option_map size_of) e) w

abbrev is-nested : Plan → Bool
is-nested (size_plan t n) = false
is-nested (value_plan f x r d ns) = is_nested_dom d

module _ (S : List Stm) (o : Options) (h : are_mixed_statements S o ≡ true) (f : fault S ≡ None)
    (ts : types_come_first [] (prepared S) ≡ true) (bs : have_bounds (plans S o) [] (prepared S) ≡ true) where
  abbrev Ps : List Plan
  Ps = plans S o

  abbrev sh : Shows
  sh = shows_of S o

  module _ (E : Model) (g : E.givens ≡ map (mixed_decl (kinds S) Ps) (plans_for givens_side S o))
      (e : E.finds ≡ append_all (map (mixed_decls (kinds S) Ps) (plans_for finds_side S o))) where
    abbrev pub model-cells : Text → Option (Bool × List ℕ)
    model-cells = sized_cells (all_decls E)

    -- ---- sizes

    -- Members of a set of nested ones are no values of a type, so that they are its axis.
    own-axis : (A : Dom) → is_nested_dom (set_dom [] no_exs A) ≡ true → axis_of_set (kinds S) Ps (set_dom [] no_exs A) ≡ A
    own-axis (name_dom t) z = absurd (no-yes z)
    own-axis A z = refl

    -- A table of truth values over such an axis.
    abbrev flags_over : Dom → Option (Bool × List ℕ)
    flags_over d = Some (true, axis_size (axis_dom d) ∷ [])

    set-sized : (x : Text) (A : Dom) (n : Text) → In (value_plan finds_side x Occ (set_dom [] no_exs A) ((n, 1) ∷ [])) Ps →
        is_nested_plan (kinds S) (value_plan finds_side x Occ (set_dom [] no_exs A) ((n, 1) ∷ [])) ≡ false →
        is_nested_dom (set_dom [] no_exs A) ≡ true → AreSized model-cells Occ (set_dom [] no_exs A) (n ∷ [])
    set-sized x A n i k z = (
      ap (option_map size_of) (ap (λ l. declaration_of l n) (all-same S o h f ts bs E g e)
          ∙ declared S o h (value_plan finds_side x Occ (set_dom [] no_exs A) ((n, 1) ∷ [])) i k)
          ∙ ap flags_over (own-axis A z),
      tt,
    )

    nested-sized : (x : Text) (r : Repr) (d : Dom) (ns : List Named) → In (value_plan finds_side x r d ns) Ps →
        is_nested_plan (kinds S) (value_plan finds_side x r d ns) ≡ true → AreSized model-cells r d (keys ns)
    nested-sized x r d ns i k =
        tables-sized (all_decls E) r d (keys ns) (nested-declared S o h E g e x r d ns
        (in-filtered (is_on finds_side) (value_plan finds_side x r d ns) Ps i refl) k).tables

    plan-sized : (P : Plan) → In P Ps → PlanFact S o P → is-nested P ≡ true → PlanSized model-cells P
    plan-sized P i (size_fact t n q) k = absurd (no-yes (ap is-nested (sym q) ∙ k))
    plan-sized P i (atom_fact w) k = absurd (no-yes (sym (shape-single S o w.d w.scalar) ∙ ap is-nested (sym w.is) ∙ k))
    plan-sized P i (set_fact x A n q m a) k =
        subst (PlanSized model-cells) (sym q) (set-sized x A n (subst (λ P. In P Ps) q i) (set-single S o x n m)
        (ap is-nested (sym q) ∙ k))
    plan-sized P i (nested_fact x r d taken q n c y w) k =
        subst (PlanSized model-cells) (sym q)
        (nested-sized x r d (named_tables x (table_names r d) taken) (subst (λ P. In P Ps) q i) (ap (is_nested_plan (kinds S)) (sym q) ∙ y))

    -- ---- views

    module _ (a : Text) (k : Kind) (w : NestedAmong S o Ps a k) where
      abbrev pub view : Ex
      view = seen_ex w.r w.d (keys w.ns) no_exs

      -- The view is shown for the name.
      pub first-view : in_place sh.first a ≡ view
      first-view = ap (λ z. or_default z (name_ex a)) (set-is-shown S o h f ts bs a w.r w.d w.ns w.planned w.sets.nested w.fit).0

      pub last-view : in_place sh.last a ≡ view
      last-view = ap (λ z. or_default z (name_ex a)) (set-is-shown S o h f ts bs a w.r w.d w.ns w.planned w.sets.nested w.fit).1

      kept : Keeps model-cells [] w.r w.d (keys w.ns)
      kept =
          tables-keep model-cells (kept-form 250 w.r w.d w.sets.nested w.fit) (keys w.ns) w.named
          (plan-sized (value_plan finds_side a w.r w.d w.ns) w.planned
          (at-item (PlanFact S o) Ps (value_plan finds_side a w.r w.d w.ns) (all-facts S o h) w.planned) w.sets.nested)

      -- Its tables keep it.
      pub is-set-view : (v : Ex) → v ≡ view → IsSetView model-cells v k
      is-set-view v q =
          let z = w.sets.is in record {
            way = w.r;
            attributes = w.sets.attributes;
            sizes = w.sets.sizes;
            inner = w.sets.inner;
            tables = keys w.ns;
            is = q ∙ ap (λ d. seen_ex w.r d (keys w.ns) no_exs) z;
            nested = subst (λ d. is_nested_dom d ≡ true) z w.sets.nested;
            fit = subst (λ d. fits w.r d ≡ true) z w.fit;
            kept = subst (λ d. Keeps model-cells [] w.r d (keys w.ns)) z kept;
            kind = w.sets.kind;
          }
