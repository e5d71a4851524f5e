-- The rule that is built of a constraint that speaks of nested sets says what the constraint says: what is shown for the names of such sets
-- is kept by declared tables, over which it has their values.
use Rattle.std.proofs.Common.{◌≡◌, refl, sym, ap, ◌∙◌, subst, ℕ, ◌+◌, ◌^◌, Bool, true, false, ◌&&◌, List, [], ◌∷◌, ◌++◌, map, length, nat_le, ℤ, Option, Some, None, option_map, arith}
use Rattle.std.proofs.lemmas.Bool.{leb-true}
use Rattle.std.specs.List.{list_all, list_any}
use Rattle.ess_semantics.specs.Lists.{append_all}
use Rattle.ess_semantics.specs.Values.{Text}
use Rattle.ess_semantics.specs.Order.{same_int}
use Rattle.ess_semantics.specs.Names.{Names, keys}
use Rattle.ess_semantics.specs.Trees.{Ex, Dom, Stm}
use Rattle.ess_semantics.specs.DeclaredTables.{TableDecl}
use Rattle.ess_semantics.specs.ModelMeaning.{declaration_of}
use Rattle.ess_semantics.specs.Constants.{constants_of}
use Rattle.ess_semantics.specs.Tables.{Table}
use Rattle.ess_semantics.specs.Meaning.{meaning, is_bool_dom}
use Rattle.ess_semantics.specs.Meets.{Meets}
use Rattle.ess_semantics.specs.Prepared.{prepared}
use Rattle.ess_semantics.specs.Assignments.{Assignment, env_of}
use Rattle.ess_semantics.specs.Judgements.{fault}
use Rattle.ess_semantics.specs.Plans.{Options, givens_side, finds_side, Plan, plans, plans_for}
use Rattle.ess_semantics.specs.ModelTrees.{Model, all_decls}
use Rattle.ess_semantics.specs.Models.{cell_for}
use Rattle.ess_semantics.proofs.Tests.{and-left, and-right}
use Rattle.ess_grammar.specs.Models.{Scope}
use Rattle.ess_refine_laws.specs.SpellingEnds.{numbers_of_tree}
use Rattle.conjure_laws.specs.Premises.{Instance}
use Rattle.conjure_laws.specs.ModelPremises.{Canonical}
use Rattle.conjure_laws.specs.Views.{over_tables}
use Rattle.conjure_laws.proofs.Lists.{map-length}
use Rattle.conjure_model_laws.specs.ToldApart.{is_unreserved}
use Rattle.conjure_model_laws.specs.Shown.{Shows, in_place, shows_nothing, shows_of}
use Rattle.conjure_model_laws.specs.Printed.{binders}
use Rattle.conjure_model_laws.specs.IsBuiltFrom.{taken_names}
use Rattle.ess_nested_laws.proofs.NestedForms.{nested-form, kept-form}
use Rattle.ess_flat_models_laws.specs.FlatSpecifications.{scalar_mark, is_flat_truth}
use Rattle.ess_bare_written_laws.specs.Laws.{IsDeclared, AreDeclared}
use Rattle.ess_seen_laws.specs.Seen.{Kind, counted_axes}
use Rattle.ess_seen_laws.specs.Filled.{AreFilled}
use Rattle.ess_mixed_models_laws.specs.ess_setwise_laws.Setwise.{is_setwise_truth}
use Rattle.ess_mixed_models_laws.specs.ess_setwise_laws.Laws.{ShowsSets, HoldsSets, HoldsScalars, MeetsSets, SpellsSets}
use Rattle.conjure_modelling.specs.ess_model_written.RulesWritten.{ConstraintComes}
use Rattle.ess_mixed_models_laws.specs.MixedSpecifications.{kinds, nested_kind, are_mixed_statements, types_come_first, have_bounds, spares_reserved, has_names_left, unbound_kind, is_setwise_constraint}
use Rattle.ess_mixed_models_laws.specs.MixedModels.{mixed_decl, mixed_decls, IsRuleOf, of_setwise}
use Rattle.ess_mixed_models_laws.proofs.ScalarCells.{placed-names}
use Rattle.ess_mixed_views_laws.proofs.AxisSizes.{axis_size}
use Rattle.ess_mixed_views_laws.proofs.NestedNames.{NestedAmong, nested-name}
use Rattle.ess_mixed_views_laws.proofs.ViewValues.{view-is, StandsForName, view-stands}
use Rattle.ess_mixed_views_laws.proofs.ViewNumbers.{view-spelled}
use Rattle.conjure_standing_laws.specs.SetwiseLaws.{HaveSets, SetwiseRulesStand}
use Rattle.conjure_standing_laws.proofs.ShownNames.{names-shown}
use Rattle.conjure_standing_laws.proofs.ShownSets.{shown-alike}
use Rattle.conjure_standing_laws.proofs.ScalarsHeld.{none-reserved, names-held, marks-held, all-same, cell-declared}
use Rattle.conjure_standing_laws.proofs.FilledTables.{size_of, sized_cells, tables-filled}
use Rattle.conjure_standing_laws.proofs.UnboundSets.{unbound-sets}
use Rattle.conjure_standing_laws.proofs.SetViews.{view, first-view, last-view, is-set-view}

no-axes : (as' : List Dom) → length as' ≡ 0 → map axis_size as' ≡ []
no-axes [] e = refl
no-axes (a ∷ as') e = absurd (omega (arith, e))

-- The number of axes in place of their sizes.
abbrev counted : Bool × List ℕ → Bool × ℕ
counted z = (z.0, length z.1)

-- Tables with declared sizes have the declared numbers of axes.
sizes-declared : (ds : List TableDecl) → AreDeclared ds (counted_axes (sized_cells ds))
sizes-declared ds n b k e = go (declaration_of ds n) refl e
  where
    none : {x : Bool × ℕ} → None ≡ Some x → ⊥
    none h = cc

    same : (x y : Bool × ℕ) → Some x ≡ Some y → x ≡ y
    same x y h = cc

    go : (o : Option TableDecl) → declaration_of ds n ≡ o → option_map counted (option_map size_of o) ≡ Some (b, k) →
        IsDeclared ds n b k
    go None q e = absurd (none e)
    go (Some t) q e =
        let z = same (is_bool_dom t.cell, length (map axis_size t.axes)) (b, k) e in
        record {
          line = t;
          found = q;
          mark = ap (λ m. m.0) z;
          axes = sym (map-length axis_size t.axes) ∙ ap (λ m. m.1) z;
        }

module _ (S : List Stm) (o : Options) (h : are_mixed_statements S o ≡ true) (f : fault S ≡ None)
    (ts : types_come_first [] (prepared S) ≡ true) (bs : have_bounds (plans S o) [] (prepared S) ≡ true) where
  abbrev Ps : List Plan
  Ps = plans S o

  abbrev sh : Shows
  sh = shows_of S o

  module _ (E : Model) (g : E.givens ≡ map (mixed_decl (kinds S) Ps) (plans_for givens_side S o))
      (e : E.finds ≡ append_all (map (mixed_decls (kinds S) Ps) (plans_for finds_side S o))) where
    abbrev cells : Text → Option (Bool × List ℕ)
    cells = sized_cells (all_decls E)

    named : (a : Text) (k : Kind) → nested_kind Ps a ≡ Some k → NestedAmong S o Ps a k
    named a k q = nested-name S o h a k q

    first-is : (a : Text) (k : Kind) (q : nested_kind Ps a ≡ Some k) →
        in_place sh.first a ≡ view S o h f ts bs E g e a k (named a k q)
    first-is a k q = first-view S o h f ts bs E g e a k (named a k q)

    last-is : (a : Text) (k : Kind) (q : nested_kind Ps a ≡ Some k) → in_place sh.last a ≡ view S o h f ts bs E g e a k (named a k q)
    last-is a k q = last-view S o h f ts bs E g e a k (named a k q)

    -- ---- what is shown

    -- A declared cell has its mark and no axes.
    cell-marked : (n : Text) (b : Bool) → IsDeclared (all_decls E) n b 0 → cells n ≡ Some (b, [])
    cell-marked n b w =
        ap (option_map size_of) w.found ∙ ap (λ z. Some (z, map axis_size w.line.axes)) w.mark
        ∙ ap (λ z. Some (b, z)) (no-axes w.line.axes w.axes)

    sets-shown : list_all is_unreserved (keys sh.first) ≡ true → ShowsSets sh (scalar_mark Ps) (nested_kind Ps) cells
    sets-shown u = record {
      single = λ a m q. let r = placed-names S o h a m q in (
        r.0,
        names-shown S o h f ts bs a m q ∙ ap (cell_for a) r.1,
        cell-marked r.0 m (cell-declared S o h f ts bs E g e r.0 m r.2),
      );
      first = λ a k q. is-set-view S o h f ts bs E g e a k (named a k q) (in_place sh.first a) (first-is a k q);
      last = λ a k q. is-set-view S o h f ts bs E g e a k (named a k q) (in_place sh.last a) (last-is a k q);
      spares_first = none-reserved sh.first u;
      spares_last = none-reserved sh.last
          (ap (list_all is_unreserved) (sym (shown-alike Ps (prepared S) shows_nothing refl)) ∙ u);
    }

    abbrev isc : ℤ → Bool
    isc n = list_any (same_int n) (constants_of S)

    spelled-at : (a : Text) (k : Kind) (w : NestedAmong S o Ps a k) →
        list_all isc (numbers_of_tree (view S o h f ts bs E g e a k w)) ≡ true
    spelled-at a k w = view-spelled S o a w.r w.d w.ns (keys w.ns) w.planned (nested-form 250 w.d w.sets.nested)

    sets-spelled : SpellsSets sh (nested_kind Ps) (λ n. list_any (same_int n) (constants_of S))
    sets-spelled = record {
      first = λ a k q. ap (λ z. list_all isc (numbers_of_tree z)) (first-is a k q) ∙ spelled-at a k (named a k q);
      last = λ a k q. ap (λ z. list_all isc (numbers_of_tree z)) (last-is a k q) ∙ spelled-at a k (named a k q);
    }

    -- ---- values

    module _ (p a : Assignment) (q c : Names Table) (I : Instance S o p q) (C : Canonical S o p a c) where
      stands : (x : Text) (k : Kind) (w : NestedAmong S o Ps x k) →
          StandsForName S o h f p a q c I C x (view S o h f ts bs E g e x k w)
      stands x k w =
          let n = nested-form 250 w.d w.sets.nested in
          subst (StandsForName S o h f p a q c I C x) (view-is n (kept-form 250 w.r w.d w.sets.nested w.fit) w.d finds_side x w.ns)
          (view-stands S o h f p a q c I C x w.r w.d w.ns w.planned n)

      sets-held : HoldsSets sh (nested_kind Ps) (env_of S p a) (over_tables S p (q ++ c))
      sets-held = record {
        first = λ x k t. ap (λ z. meaning z (over_tables S p (q ++ c))) (first-is x k t) ∙ (stands x k (named x k t)).value;
        last = λ x k t. ap (λ z. meaning z (over_tables S p (q ++ c))) (last-is x k t) ∙ (stands x k (named x k t)).value;
      }

      sets-met : MeetsSets sh (nested_kind Ps) (over_tables S p (q ++ c))
      sets-met = record {
        first = λ x k t. subst (λ z. Meets z (over_tables S p (q ++ c))) (sym (first-is x k t)) (stands x k (named x k t)).met;
        last = λ x k t. subst (λ z. Meets z (over_tables S p (q ++ c))) (sym (last-is x k t)) (stands x k (named x k t)).met;
      }

      scalars-held : HoldsScalars sh (scalar_mark Ps) (over_tables S p (q ++ c))
      scalars-held = record {
        holds = λ x m t. let r = placed-names S o h x m t in
            let v = marks-held S o h f ts bs p a q c I C r.0 m r.2 in (
              v.0,
              v.1,
              ap (λ z. meaning z (over_tables S p (q ++ c))) (names-shown S o h f ts bs x m t ∙ ap (cell_for x) r.1) ∙ v.2,
            );
      }

    -- So the specification has its sets over tables.
    pub have-sets : list_all is_unreserved (keys sh.first) ≡ true → HaveSets S o E (nested_kind Ps) cells
    have-sets u = record {
      shown = sets-shown u;
      declared = sizes-declared (all_decls E);
      spells = sets-spelled;
      names = names-held S o h f ts bs;
      values = sets-held;
      scalars = scalars-held;
      filled = λ p a q c I C. subst (λ ds. AreFilled (sized_cells ds) (over_tables S p (q ++ c)))
          (sym (all-same S o h f ts bs E g e)) (tables-filled S o h f p a q c I C);
      met = sets-met;
    }

    -- What comes of a constraint that speaks of nested sets is a rule of it.
    pub setwise-rule : SetwiseRulesStand → (s : Scope) (x r : Ex) → is_flat_truth Ps x ≡ false → is_setwise_constraint Ps S x ≡ true →
        ConstraintComes s (taken_names S o) sh x (Some r) → IsRuleOf S o E x r
    setwise-rule stand s x r n t w =
        let u : Bool = is_setwise_truth (scalar_mark Ps) (unbound_kind Ps x) x in
        let v : Bool = spares_reserved Ps S in
        let l : Bool = has_names_left Ps S x in
        let k : Bool = list_all (λ n. list_any (same_int n) (constants_of S)) (numbers_of_tree x) in
        let b1 = and-right u (v && (l && k)) t in
        let b2 = and-right v (l && k) b1 in
        let b3 = and-left l k b2 in
        let c1 : Bool = nat_le (sh.next + binders x) (2 ^ 62) in
        let c2 : Bool = nat_le (length (taken_names S o)) (2 ^ 62) in
        let z = stand S o E (unbound_kind Ps x) cells
        (unbound-sets S o E cells x (have-sets (and-left v (l && k) b1))) x (and-left u (v && (l && k)) t)
        (leb-true (sh.next + binders x) (2 ^ 62) (and-left c1 c2 b3)) (taken_names S o)
        (leb-true (length (taken_names S o)) (2 ^ 62) (and-right c1 c2 b3)) s r w in
        of_setwise n t z.0 (z.1 (and-right l k b2))
