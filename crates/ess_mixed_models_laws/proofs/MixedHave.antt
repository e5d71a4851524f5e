-- Each model of a well typed specification of the class stands for it, and each solution has exactly one satisfying assignment.
use Rattle.std.proofs.Common.{◌≡◌, refl, sym, ap, ◌∙◌, subst, Bool, true, false, ◌&&◌, not, List, [], ◌∷◌, ◌++◌, inl, inr, map, None}
use Rattle.std.specs.List.{list_all}
use Rattle.std.proofs.lemmas.List.{append-nil}
use Rattle.ess_semantics.specs.Lists.{append_all}
use Rattle.ess_semantics.specs.Values.{Text}
use Rattle.ess_semantics.specs.Names.{keys, all_distinct}
use Rattle.ess_semantics.specs.Trees.{Repr, Ex, no_exs, Dom, set_dom, Stm}
use Rattle.ess_semantics.specs.TableNames.{Named, table_names, named_tables}
use Rattle.ess_semantics.specs.Kinds.{fits}
use Rattle.ess_repr_declare_laws.specs.DeclaredTrees.{trees_below}
use Rattle.conjure_model_laws.specs.IsBuiltFrom.{with_whole_names}
use Rattle.ess_nested_laws.specs.NestedDomains.{is_nested_dom}
use Rattle.ess_nested_laws.proofs.NestedForms.{nested-form, kept-form}
use Rattle.ess_nested_tables_laws.proofs.TableBounds.{DeclHas}
use Rattle.ess_semantics.specs.Contexts.{Each}
use Rattle.ess_semantics.specs.DeclaredTables.{TableDecl}
use Rattle.ess_semantics.specs.Prepared.{prepared}
use Rattle.ess_semantics.specs.Solutions.{finds}
use Rattle.ess_semantics.specs.Judgements.{fault}
use Rattle.ess_semantics.specs.Plans.{Options, givens_side, finds_side, Plan, value_plan, plans, plans_for, value_names}
use Rattle.ess_semantics.specs.ModelTrees.{Model, Goal, no_goal, least, greatest, header_of, goal_of, same_direction}
use Rattle.ess_semantics.specs.Occurrences.{parts_of}
use Rattle.ess_semantics.specs.Constants.{parts_of_decl}
use Rattle.ess_semantics.specs.Models.{Models, IsExact, constraints_of}
use Rattle.ess_semantics.proofs.Tests.{and-left, and-right}
use Rattle.conjure_laws.specs.Members.{In}
use Rattle.conjure_laws.specs.SideBySide.{Along}
use Rattle.conjure_laws.specs.Premises.{is_on}
use Rattle.conjure_laws.specs.ModelPremises.{RuleMeans, Layers, spelled, Texts}
use Rattle.conjure_laws.proofs.Lists.{at-item, all-items, in-filter, each-append, along-map}
use Rattle.conjure_laws.proofs.Reduction.{models, exact}
use Rattle.conjure_laws.proofs.SetChannels.{none, none_of}
use Rattle.conjure_laws.proofs.SetPlans.{Occ}
use Rattle.conjure_laws.proofs.Statements.{plan-is-found}
use Rattle.conjure_settled_laws.proofs.SettledStatements.{typed-is-settled}
use Rattle.ess_flat_models_laws.specs.FlatSpecifications.{given_mark, has_marks}
use Rattle.ess_flat_models_laws.specs.FlatModels.{flat_goal, goal_rules}
use Rattle.ess_flat_models_laws.proofs.FlatTexts.{each-mapped, dom-spelled, scalar-simple}
use Rattle.ess_flat_models_laws.proofs.PreparedStatements.{truth-flat, prepared-direction}
use Rattle.ess_flat_models_laws.proofs.ScalarDomains.{Atom}
use Rattle.ess_mixed_models_laws.specs.MixedSpecifications.{kinds, is_nested_plan, are_mixed_statements, types_come_first, have_bounds}
use Rattle.ess_mixed_models_laws.specs.MixedModels.{mixed_decl, nested_decls, mixed_decls, AreStructure, IsRuleOf, of_flat, of_membership, of_setwise, IsGoalOf, of_no_goal, of_least, of_greatest, IsMixedModel}
use Rattle.ess_mixed_models_laws.specs.Laws.{MixedModelsAreRight}
use Rattle.ess_mixed_models_laws.proofs.MixedPlans.{PlanFact, size_fact, atom_fact, set_fact, nested_fact, all-facts, set-single, atom-single}
use Rattle.ess_mixed_models_laws.proofs.NestedPlans.{renamed-have}
use Rattle.ess_mixed_models_laws.proofs.NestedSpelled.{table-spells, nested-spells}
use Rattle.ess_mixed_models_laws.proofs.MixedCells.{single-decls, nested-decls, decls}
use Rattle.ess_mixed_models_laws.proofs.ScalarCells.{cells, given-cells}
use Rattle.ess_mixed_models_laws.proofs.MixedGivens.{plan-bounds}
use Rattle.ess_mixed_models_laws.proofs.MixedConstants.{table-spelled, kept-numbers}
use Rattle.ess_mixed_models_laws.proofs.MixedForms.{forms-stay}
use Rattle.ess_mixed_models_laws.proofs.MixedGoals.{goals-mean}
use Rattle.ess_mixed_models_laws.proofs.MixedLayers.{model_with, givens-single, base, structures-mean, channels-mean}
use Rattle.ess_mixed_models_laws.proofs.MixedSmall.{none-large}
use Rattle.ess_mixed_models_laws.proofs.MixedSpelled.{rules-spelled, goal-spelled, goal-rules-spelled}
use Rattle.ess_mixed_models_laws.proofs.ScalarValues.{flat-means}
use Rattle.ess_mixed_models_laws.proofs.SetValues.{set-means}

no-channels : {A : Type 0} (xs : List A) → append_all (map append_all (map (λ x. none_of) xs)) ≡ none
no-channels [] = refl
no-channels (x ∷ xs) = no-channels xs

-- The direction is that of a flat objective.
direction-of : (S : List Stm) (o : Options) (M : Model) (g k z : Goal) → IsGoalOf S o M g k →
    same_direction (flat_goal (plans S o) g) z ≡ true → same_direction k z ≡ true
direction-of S o M g k z of_no_goal d = d
direction-of S o M g k no_goal (of_least w) d = d
direction-of S o M g k (least e) (of_least w) d = d
direction-of S o M g k (greatest e) (of_least w) d = d
direction-of S o M g k no_goal (of_greatest w) d = d
direction-of S o M g k (least e) (of_greatest w) d = d
direction-of S o M g k (greatest e) (of_greatest w) d = d

module _ (S : List Stm) (o : Options) (h : are_mixed_statements S o ≡ true) (f : fault S ≡ None) (G : Goal) (cs : List Ex)
    (sss : List (List Ex)) where
  abbrev Ps : List Plan
  Ps = plans S o

  abbrev Gs : List Plan
  Gs = plans_for givens_side S o

  abbrev Fs : List Plan
  Fs = plans_for finds_side S o

  abbrev decl : Plan → TableDecl
  decl P = mixed_decl (kinds S) Ps P

  abbrev decls_of : Plan → List TableDecl
  decls_of P = mixed_decls (kinds S) Ps P

  abbrev rs : List Ex
  rs = append_all sss ++ goal_rules (goal_of (prepared S)) ++ cs

  abbrev E : Model
  E = model_with S o h G rs

  -- The objective.
  abbrev Aimed : Type 0
  Aimed = IsGoalOf S o E (goal_of (prepared S)) G

  -- The rules of constraints.
  abbrev Written : Type 0
  Written = Along (constraints_of (prepared S)) cs (IsRuleOf S o E)

  rule-means : (e r : Ex) → IsRuleOf S o E e r → RuleMeans S o E e r
  rule-means e r (of_flat t) = flat-means S o h f G rs e (truth-flat Ps e t)
  rule-means e r (of_membership {e = v} {x = x} t R) = set-means S o h f G rs v x r t R
  rule-means e r (of_setwise n t m s) = m

  -- The layers, without a premise but the judgements.
  abbrev layers : Along Fs sss (AreStructure S o E) → Aimed → Written → all_distinct (finds S) ≡ true → Layers S o E
  layers w aimed written d = record {
    base = base S o h f G rs;
    rules = record {
      structures = sss;
      channels = map (λ x. none_of) (value_names finds_side S);
      goals = goal_rules (goal_of (prepared S));
      rules = cs;
      all = sym (ap (λ l. ((append_all sss ++ l) ++ goal_rules (goal_of (prepared S))) ++ cs) (no-channels (value_names finds_side S))
          ∙ ap (λ l. (l ++ goal_rules (goal_of (prepared S))) ++ cs) (append-nil (append_all sss)));
      structures_mean = structures-mean S o h f G rs sss w;
      channels_mean = channels-mean S o h G rs d;
      goals_mean = goals-mean S o h f G rs aimed;
      rules_mean = along-map (constraints_of (prepared S)) cs (IsRuleOf S o E) (RuleMeans S o E) rule-means written;
    };
  }

  -- ---- the text

  single-spelled : (P : Plan) → is_nested_plan (kinds S) P ≡ false → spelled S (parts_of_decl (decl P)) ≡ true →
      Each (decls_of P) (λ d. spelled S (parts_of_decl d) ≡ true)
  single-spelled P k e = subst (λ l. Each l (λ d. spelled S (parts_of_decl d) ≡ true)) (sym (single-decls S o P k)) (e, tt)

  each-spells : (ts : List TableDecl) → Each ts (DeclHas (λ e. spelled S (parts_of e) ≡ true)) →
      Each ts (λ d. spelled S (parts_of_decl d) ≡ true)
  each-spells [] w = tt
  each-spells (t ∷ ts) w = (table-spells S t w.0, each-spells ts w.1)

  nested-spelled : (x : Text) (r : Repr) (d : Dom) (taken : List Text) → is_nested_dom d ≡ true → fits r d ≡ true →
      In (value_plan finds_side x r d (named_tables x (table_names r d) taken)) Ps →
      Each (nested_decls (value_plan finds_side x r d (named_tables x (table_names r d) taken)))
      (λ d. spelled S (parts_of_decl d) ≡ true)
  nested-spelled x r d taken n g i =
      let ns : List Named = named_tables x (table_names r d) taken in
      each-spells (with_whole_names (keys ns) (trees_below false r d))
      (renamed-have (λ e. spelled S (parts_of e) ≡ true) (keys ns) (trees_below false r d)
      (nested-spells S x r d (nested-form 250 d n) (kept-form 250 r d n g) (plan-is-found S o x r d ns i)))

  decl-spelled : (P : Plan) → In P Ps → PlanFact S o P → Each (decls_of P) (λ d. spelled S (parts_of_decl d) ≡ true)
  decl-spelled P i (size_fact t n e) =
      single-spelled P (ap (is_nested_plan (kinds S)) e) (subst (λ P. spelled S (parts_of_decl (decl P)) ≡ true) (sym e) refl)
  decl-spelled P i (atom_fact w) =
      let j = subst (λ P. In P Ps) w.is i in
      let b = plan-bounds S o h w.f w.x w.d w.n j w.scalar in
      single-spelled P (ap (is_nested_plan (kinds S)) w.is ∙ atom-single S o w.f w.x w.d w.n w.scalar)
      (subst (λ P. spelled S (parts_of_decl (decl P)) ≡ true) (sym w.is)
      (dom-spelled S (given_mark Ps) Ps (cells S o h) (given-cells S o h) w.d b
      (kept-numbers S o w.f w.x Atom w.d ((w.n, 0) ∷ []) j (scalar-simple (given_mark Ps) w.d b))))
  decl-spelled P i (set_fact x A n e m a) =
      single-spelled P (ap (is_nested_plan (kinds S)) e ∙ set-single S o x n m)
      (subst (λ P. spelled S (parts_of_decl (decl P)) ≡ true) (sym e)
      (table-spelled S o n x m (plan-is-found S o x Occ (set_dom [] no_exs A) ((n, 1) ∷ []) (subst (λ P. In P Ps) e i))))
  decl-spelled P i (nested_fact x r d taken e n g k c) =
      subst (λ l. Each l (λ d. spelled S (parts_of_decl d) ≡ true)) (sym (nested-decls S o P k))
      (subst (λ P. Each (nested_decls P) (λ d. spelled S (parts_of_decl d) ≡ true)) (sym e)
      (nested-spelled x r d taken n g (subst (λ P. In P Ps) e i)))

  at-plan : (P : Plan) → In P Ps → Each (decls_of P) (λ d. spelled S (parts_of_decl d) ≡ true)
  at-plan P i = decl-spelled P i (at-item (PlanFact S o) Ps P (all-facts S o h) i)

  given-spelled : (P : Plan) → In P Gs → spelled S (parts_of_decl (decl P)) ≡ true
  given-spelled P i =
      (subst (λ l. Each l (λ d. spelled S (parts_of_decl d) ≡ true)) (single-decls S o P (givens-single S o h f P i))
      (at-plan P (in-filter (is_on givens_side) P Ps i).0)).0

  finds-spelled : (Qs : List Plan) → ((P : Plan) → In P Qs → In P Ps) →
      Each (append_all (map decls_of Qs)) (λ d. spelled S (parts_of_decl d) ≡ true)
  finds-spelled [] g = tt
  finds-spelled (P ∷ Qs) g =
      each-append (λ d. spelled S (parts_of_decl d) ≡ true) (decls_of P) (append_all (map decls_of Qs)) (at-plan P (g P (inl refl)))
      (finds-spelled Qs (λ P j. g P (inr j)))

  decls-spelled : Each (decls S o h) (λ d. spelled S (parts_of_decl d) ≡ true)
  decls-spelled = each-append (λ d. spelled S (parts_of_decl d) ≡ true) (map decl Gs) (append_all (map decls_of Fs))
      (each-mapped decl (λ d. spelled S (parts_of_decl d) ≡ true) Gs
      (all-items (λ P. spelled S (parts_of_decl (decl P)) ≡ true) Gs given-spelled))
      (finds-spelled Fs (λ P i. (in-filter (is_on finds_side) P Ps i).0))

  structures-spelled : (M : Model) (Qs : List Plan) (us : List (List Ex)) → Along Qs us (AreStructure S o M) →
      Each (append_all us) (λ r. spelled S (parts_of r) ≡ true)
  structures-spelled M [] [] w = tt
  structures-spelled M [] (u ∷ us) w = absurd w
  structures-spelled M (P ∷ Qs) [] w = absurd w
  structures-spelled M (P ∷ Qs) (u ∷ us) w =
      each-append (λ r. spelled S (parts_of r) ≡ true) u (append_all us) w.0.spelled (structures-spelled M Qs us w.1)

  texts : Along Fs sss (AreStructure S o E) → Aimed → Written → have_bounds Ps [] (prepared S) ≡ true →
      list_all (has_marks Ps) (constraints_of S) ≡ true →
      Texts S o (header_of S o) E cs
  texts w aimed written bs marks = record {
    header = refl;
    direction = direction-of S o E (goal_of (prepared S)) G (goal_of S) aimed (prepared-direction Ps S);
    decls = decls-spelled;
    goal = goal-spelled S o h f E G aimed;
    spells = each-append (λ r. spelled S (parts_of r) ≡ true) (append_all sss ++ goal_rules (goal_of (prepared S))) cs
        (each-append (λ r. spelled S (parts_of r) ≡ true) (append_all sss) (goal_rules (goal_of (prepared S)))
        (structures-spelled E Fs sss w) (goal-rules-spelled S (goal_of (prepared S)))) (rules-spelled S o h f E cs written);
    flat = forms-stay S o h marks E cs written;
    small = λ p q I u m. ap not (none-large S o h f bs p q I m);
  }

  -- The model stands for the specification, and each solution has exactly one satisfying assignment.
  pub have : Along Fs sss (AreStructure S o E) → Aimed → Written → have_bounds Ps [] (prepared S) ≡ true →
      list_all (has_marks Ps) (constraints_of S) ≡ true →
      Models S o (header_of S o) E × IsExact S o E
  have w aimed written bs marks =
      let d = (typed-is-settled S f).distinct in
      (models S o E (layers w aimed written d) (header_of S o) (texts w aimed written bs marks), exact S o E (layers w aimed written d))

-- So does each model of the class.
pub mixed-right : MixedModelsAreRight
mixed-right S o E f h M =
    let a : Bool = are_mixed_statements S o in
    let t : Bool = types_come_first [] (prepared S) in
    let b : Bool = have_bounds (plans S o) [] (prepared S) in
    let c : Bool = list_all (has_marks (plans S o)) (constraints_of S) in
    let k = and-left a (t && (b && c)) h in
    let r = and-right t (b && c) (and-right a (t && (b && c)) h) in
    subst (λ E. Models S o (header_of S o) E × IsExact S o E) (sym (same E M k))
    (have S o k f E.goal M.constraints M.structures
    (subst (λ E. Along (plans_for finds_side S o) M.structures (AreStructure S o E)) (same E M k) M.structured)
    (subst (λ z. IsGoalOf S o z (goal_of (prepared S)) E.goal) (same E M k) M.goal)
    (subst (λ E. Along (constraints_of (prepared S)) M.constraints (IsRuleOf S o E)) (same E M k) M.written)
    (and-left b c r) (and-right b c r))
  where
    same : (E : Model) (M : IsMixedModel S o E) (k : are_mixed_statements S o ≡ true) →
        E ≡ model_with S o k E.goal (append_all M.structures ++ goal_rules (goal_of (prepared S)) ++ M.constraints)
    same E M k =
        ap (λ z. record { givens = z; finds = E.finds; goal = E.goal; rules = E.rules }) M.givens
        ∙ ap (λ z. record {
          givens = map (mixed_decl (kinds S) (plans S o))
              (plans_for givens_side S o);
          finds = z;
          goal = E.goal;
          rules = E.rules;
        }) M.finds
        ∙ ap (λ z. record {
          givens = map (mixed_decl (kinds S) (plans S o)) (plans_for givens_side S o);
          finds = append_all (map (mixed_decls (kinds S) (plans S o)) (plans_for finds_side S o));
          goal = E.goal;
          rules = z;
        }) M.rules
