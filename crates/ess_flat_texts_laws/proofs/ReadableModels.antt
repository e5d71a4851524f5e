-- The model of a specification of the class whose statements some text has is one that some text has.
use Rattle.std.proofs.Common.{◌≡◌, refl, sym, ap, ◌∙◌, subst, Bool, true, false, ◌&&◌, List, [], ◌∷◌, inl, inr, map, codes, Some, None, ◌++◌}
use Rattle.std.specs.List.{list_all}
use Rattle.ess_semantics.specs.Values.{Text}
use Rattle.ess_semantics.specs.Names.{look, keys, is_among, all_distinct}
use Rattle.ess_semantics.specs.Trees.{Ex, Dom, bool_dom, Stm, given, let_ex, let_dom, needs, find, such_that, minimise, maximise}
use Rattle.ess_semantics.specs.Contexts.{Each}
use Rattle.ess_semantics.specs.DeclaredTables.{TableDecl, decl_name}
use Rattle.ess_semantics.specs.Meaning.{is_bool_dom}
use Rattle.ess_semantics.specs.Prepared.{prepared}
use Rattle.ess_semantics.specs.Parameters.{all_declared}
use Rattle.ess_semantics.specs.Plans.{Options, Side, givens_side, finds_side, Plan, size_plan, value_plan, plans, plans_for, names_of_plans}
use Rattle.ess_semantics.specs.ModelTrees.{Goal, no_goal, least, greatest, goal_of}
use Rattle.ess_semantics.specs.Models.{constraints_of, scalar_cell}
use Rattle.ess_semantics.proofs.Tests.{and-left, and-right, and-both}
use Rattle.ess_grammar.specs.Readable.{is_name_token, ReadableStms}
use Rattle.ess_grammar.specs.Models.{Scope, empty_scope, with_given, with_find, scope_behind, are_model_tables, is_model_ex, is_model_goal, is_readable_model}
use Rattle.conjure_laws.specs.Members.{In}
use Rattle.conjure_laws.specs.Premises.{is_on}
use Rattle.conjure_laws.proofs.Lists.{at-item, all-items, in-map, in-filter, in-filtered}
use Rattle.conjure_laws.proofs.NamedTables.{among-in, in-among}
use Rattle.conjure_laws.proofs.FreeNames.{all-names-differ, names-differ}
use Rattle.conjure_laws.proofs.Givens.{cross}
use Rattle.ess_flat_laws.specs.Flat.{Flat, none_marked}
use Rattle.ess_flat_models_laws.specs.FlatSpecifications.{given_mark, are_bounded, scalar_mark, is_flat_truth, is_flat_number, is_flat_statement, are_flat_statements, has_marks}
use Rattle.ess_flat_models_laws.specs.FlatModels.{flat_rule, first_table, decl_of, flat_goal, goal_rules, flat_model}
use Rattle.ess_flat_models_laws.proofs.PreparedStatements.{truth-flat, number-flat}
use Rattle.ess_flat_models_laws.proofs.ScalarDomains.{Atom}
use Rattle.ess_flat_models_laws.proofs.FlatPlans.{AtomPlan, all-atoms, some-atoms}
use Rattle.ess_flat_models_laws.proofs.FlatLayers.{decl-names}
use Rattle.ess_flat_models_laws.proofs.FlatValues.{AllNumbers}
use Rattle.ess_flat_models_laws.proofs.SimpleTrees.{is_simple, DomNumbers, NumbersAre}
use Rattle.ess_flat_models_laws.proofs.FlatTexts.{each-mapped, flat-simple}
use Rattle.ess_flat_models_laws.proofs.FlatNames.{no-yes, scalar-plan, given-plan, name-of}
use Rattle.ess_flat_models_laws.proofs.FlatBounds.{plan-bounds}
use Rattle.ess_flat_models_laws.proofs.FlatDeclared.{bool-stays}
use Rattle.ess_flat_texts_laws.specs.Laws.{FlatModelsAreReadable}
use Rattle.ess_flat_texts_laws.proofs.SpelledTrees.{HasToken, spelled-model, simplified-spelled, CellsDeclared, cells-spelled}
use Rattle.ess_flat_texts_laws.proofs.PreparedTokens.{prepared-tokens, prepared-named}
use Rattle.ess_flat_texts_laws.proofs.SpelledDeclarations.{GivenThere, SpelledDecl, names_of, tables-model, scope-other, scope-found}
use Rattle.ess_flat_texts_laws.proofs.BoundedPlans.{BoundedPlans, no_more, one_given, one_find, givens-domains, finds-domains, plans-bounded}

module _ (Ps : List Plan) (o : Options) where
  abbrev flat : Stm → Bool
  flat = is_flat_statement Ps o

  rest : (s : Stm) (T : List Stm) → list_all flat (s ∷ T) ≡ true → list_all flat T ≡ true
  rest s T h = and-right (flat s) (list_all flat T) h

  module _ (t : Scope) (g : CellsDeclared t Ps) where
    -- A flat tree with cells, simplified twice, is one of a model.
    tree-model : (e : Ex) (m : Bool) → Flat (scalar_mark Ps) none_marked e m → (is_simple e ≡ true → AllNumbers HasToken e) →
        is_model_ex t true [] (flat_rule Ps e) ≡ true
    tree-model e m f r =
        spelled-model t (simplified-spelled t (simplified-spelled t (cells-spelled t Ps g f (r (flat-simple (scalar_mark Ps) f)))))

    -- The rules of constraints are trees of a model.
    pub rules-model : (T : List Stm) → list_all flat T ≡ true → Each T (NumbersAre HasToken) →
        list_all (is_model_ex t true []) (map (flat_rule Ps) (constraints_of T)) ≡ true
    rules-model [] h r = refl
    rules-model (given x d ∷ T) h r = rules-model T (rest (given x d) T h) r.1
    rules-model (find x d ∷ T) h r = rules-model T (rest (find x d) T h) r.1
    rules-model (let_ex x e ∷ T) h r = rules-model T (rest (let_ex x e) T h) r.1
    rules-model (let_dom x d ∷ T) h r = rules-model T (rest (let_dom x d) T h) r.1
    rules-model (needs e ∷ T) h r = rules-model T (rest (needs e) T h) r.1
    rules-model (such_that e ∷ T) h r =
        and-both (is_model_ex t true [] (flat_rule Ps e)) (list_all (is_model_ex t true []) (map (flat_rule Ps) (constraints_of T)))
        (tree-model e true (truth-flat Ps e (and-left (is_flat_truth Ps e) (list_all flat T) h)) r.0)
        (rules-model T (rest (such_that e) T h) r.1)
    rules-model (minimise e ∷ T) h r = rules-model T (rest (minimise e) T h) r.1
    rules-model (maximise e ∷ T) h r = rules-model T (rest (maximise e) T h) r.1
    rules-model (s ∷ T) h r = absurd (no-yes h)

    -- So is the objective.
    pub goal-model : (T : List Stm) → list_all flat T ≡ true → Each T (NumbersAre HasToken) →
        is_model_goal t (flat_goal Ps (goal_of T)) ≡ true
    goal-model [] h r = refl
    goal-model (given x d ∷ T) h r = goal-model T (rest (given x d) T h) r.1
    goal-model (find x d ∷ T) h r = goal-model T (rest (find x d) T h) r.1
    goal-model (let_ex x e ∷ T) h r = goal-model T (rest (let_ex x e) T h) r.1
    goal-model (let_dom x d ∷ T) h r = goal-model T (rest (let_dom x d) T h) r.1
    goal-model (needs e ∷ T) h r = goal-model T (rest (needs e) T h) r.1
    goal-model (such_that e ∷ T) h r = goal-model T (rest (such_that e) T h) r.1
    goal-model (minimise e ∷ T) h r = tree-model e false (number-flat Ps e (and-left (is_flat_number Ps e) (list_all flat T) h)) r.0
    goal-model (maximise e ∷ T) h r = tree-model e false (number-flat Ps e (and-left (is_flat_number Ps e) (list_all flat T) h)) r.0
    goal-model (s ∷ T) h r = absurd (no-yes h)

    -- And so is the rule that it has a value.
    pub with-goal : (o : Goal) (rs : List Ex) → list_all (is_model_ex t true []) rs ≡ true →
        list_all (is_model_ex t true []) (goal_rules o ++ rs) ≡ true
    with-goal no_goal rs h = h
    with-goal (least e) rs h = h
    with-goal (greatest e) rs h = h

-- ---- names of declarations

names-are : (ds : List TableDecl) → names_of ds ≡ keys (map decl_name ds)
names-are [] = refl
names-are (d ∷ ds) = ap (λ l. d.name ∷ l) (names-are ds)

decls-named : (Cs Qs : List Plan) → Each Qs AtomPlan → names_of (map (decl_of Cs) Qs) ≡ keys (names_of_plans Qs)
decls-named Cs Qs h = names-are (map (decl_of Cs) Qs) ∙ ap keys (decl-names Cs Qs h)

-- ---- plans with their cells

-- The domain of a plan, and the name of its first table.
abbrev its_dom : Plan → Dom
its_dom (size_plan t n) = bool_dom
its_dom (value_plan f x r d ns) = d

abbrev its_name : Plan → Text
its_name (size_plan t n) = n
its_name (value_plan f x r d ns) = first_table ns

-- Equal plans have one cell and one domain.
same-cell : (P : Plan) (g : Side) (y : Text) (c : Dom) (m : Text) → P ≡ value_plan g y Atom c ((m, 0) ∷ []) →
    is_name_token m ≡ true → DomNumbers HasToken c → (is_name_token (its_name P) ≡ true) × DomNumbers HasToken (its_dom P)
same-cell P g y c m e t v = (ap (λ P. is_name_token (its_name P)) e ∙ t, subst (λ P. DomNumbers HasToken (its_dom P)) (sym e) v)

-- What bounded plans say of each.
plan-cell : (Cs : List Plan) {xs : List Text} {Qs : List Plan} → BoundedPlans Cs xs Qs → (f : Side) (x : Text) (d : Dom) (n : Text) →
    In (value_plan f x Atom d ((n, 0) ∷ [])) Qs → (is_name_token n ≡ true) × DomNumbers HasToken d
plan-cell Cs no_more f x d n i = absurd i
plan-cell Cs (one_given {x = y} {d = c} {n = m} v r) f x d n (inl e) =
    same-cell (value_plan f x Atom d ((n, 0) ∷ [])) givens_side y c m e v.token v.numbers
plan-cell Cs (one_given v r) f x d n (inr i) = plan-cell Cs r f x d n i
plan-cell Cs (one_find {x = y} {d = c} {n = m} v r) f x d n (inl e) =
    same-cell (value_plan f x Atom d ((n, 0) ∷ [])) finds_side y c m e v.token v.numbers
plan-cell Cs (one_find v r) f x d n (inr i) = plan-cell Cs r f x d n i

-- ---- the whole model

module _ (S : List Stm) (o : Options) (r : ReadableStms S) (h : are_flat_statements S o ≡ true)
    (b : are_bounded (plans S o) [] (prepared S) ≡ true) where
  abbrev Ps : List Plan
  Ps = plans S o

  abbrev Gs : List Plan
  Gs = plans_for givens_side S o

  abbrev Fs : List Plan
  Fs = plans_for finds_side S o

  -- The declarations of a side.
  abbrev decls : List Plan → List TableDecl
  decls Qs = map (decl_of Ps) Qs

  -- The scope behind the givens, and behind all declarations.
  abbrev given_scope : Scope
  given_scope = scope_behind with_given empty_scope (decls Gs)

  abbrev whole_scope : Scope
  whole_scope = scope_behind with_find given_scope (decls Fs)

  bounded : BoundedPlans Ps [] Ps
  bounded = plans-bounded Ps o (prepared S) (all_declared S) (codes "alldifferent_except" ∷ []) [] h b (prepared-named S r)
      (prepared-tokens S r)

  decl-spelled : (P : Plan) → In P Ps → AtomPlan P → SpelledDecl (decl_of Ps P)
  decl-spelled P i w =
      subst (λ P. SpelledDecl (decl_of Ps P)) (sym w.is)
      (record { token = (plan-cell Ps bounded w.f w.x w.d w.n (subst (λ P. In P Ps) w.is i)).0; axes = refl })

  spelled-on : (f : Side) → Each (decls (plans_for f S o)) SpelledDecl
  spelled-on f = each-mapped (decl_of Ps) SpelledDecl (plans_for f S o)
      (all-items (λ P. SpelledDecl (decl_of Ps P)) (plans_for f S o)
      (λ P i. let j = (in-filter (is_on f) P Ps i).0 in decl-spelled P j (at-item AtomPlan Ps P (all-atoms S o h) j)))

  named-on : (f : Side) → names_of (decls (plans_for f S o)) ≡ keys (names_of_plans (plans_for f S o))
  named-on f = decls-named Ps (plans_for f S o) (some-atoms S o h (is_on f))

  distinct-on : (f : Side) → all_distinct (names_of (decls (plans_for f S o))) ≡ true
  distinct-on f = ap all_distinct (named-on f) ∙ names-differ f S o

  -- A found cell's name is none of a given one's.
  not-given : (a : Text) → In a (names_of (decls Fs)) → is_among (names_of (decls Gs)) a ≡ false
  not-given a i = go (is_among (names_of (decls Gs)) a) refl
    where
      go : (b : Bool) → is_among (names_of (decls Gs)) a ≡ b → is_among (names_of (decls Gs)) a ≡ false
      go false q = q
      go true q =
          let j : In a (keys (names_of_plans Gs)) = subst (In a) (named-on givens_side) (among-in (names_of (decls Gs)) a q) in
          let z : true ≡ false = sym (in-among (names_of (decls Fs)) a i) ∙ ap (λ l. is_among l a) (named-on finds_side)
          ∙ cross Ps (all-names-differ S o) a j in cc

  -- The cell of a given is in the scope behind the givens, and no find.
  given-in : (a : Text) (d : Dom) (n : Text) → In (value_plan givens_side a Atom d ((n, 0) ∷ [])) Ps →
      look given_scope.tables n ≡ Some (is_bool_dom d)
  given-in a d n i =
      let P : Plan = value_plan givens_side a Atom d ((n, 0) ∷ []) in
      scope-found with_given (λ s D a. refl) (decls Gs) empty_scope (decl_of Ps P)
      (in-map (decl_of Ps) P Gs (in-filtered (is_on givens_side) P Ps i refl)) (distinct-on givens_side)
      ∙ ap (λ c. Some c) (bool-stays Ps d)

  no-finds : (ds : List TableDecl) (s : Scope) → (scope_behind with_given s ds).finds ≡ s.finds
  no-finds [] s = refl
  no-finds (D ∷ ds) s = no-finds ds (with_given s D)

  givens-there : (a : Text) → given_mark Ps a ≡ Some false → (n : Text) × (scalar_cell Ps a ≡ Some (false, n)) × GivenThere given_scope n
  givens-there a m =
      let w = given-plan Ps (all-atoms S o h) a false m in (
        w.n,
        w.cell,
        record {
          token = (plan-cell Ps bounded givens_side a w.d w.n w.planned).0;
          table = given-in a w.d w.n w.planned ∙ ap (λ c. Some c) w.mark;
          given = ap (λ l. is_among l w.n) (no-finds (decls Gs) empty_scope);
        },
      )

  -- Each scalar name has its cell in scope.
  declared : CellsDeclared whole_scope Ps
  declared a m e =
      let w = scalar-plan Ps (all-atoms S o h) a m e in (
        w.n,
        w.cell,
        (plan-cell Ps bounded w.f a w.d w.n w.planned).0,
        in-scope w.f a w.d w.n w.planned ∙ ap (λ b. Some b) w.mark,
      )
    where
      in-scope : (f : Side) (a : Text) (d : Dom) (n : Text) → In (value_plan f a Atom d ((n, 0) ∷ [])) Ps →
          look whole_scope.tables n ≡ Some (is_bool_dom d)
      in-scope givens_side a d n i =
          scope-other with_find (λ s D a. refl) (decls Fs) given_scope n
          (ap (λ l. is_among l n) (named-on finds_side)
          ∙ cross Ps (all-names-differ S o) n
          (name-of givens_side a d n Gs (in-filtered (is_on givens_side) (value_plan givens_side a Atom d ((n, 0) ∷ [])) Ps i refl)))
          ∙ given-in a d n i
      in-scope finds_side a d n i =
          let P : Plan = value_plan finds_side a Atom d ((n, 0) ∷ []) in
          scope-found with_find (λ s D a. refl) (decls Fs) given_scope (decl_of Ps P)
          (in-map (decl_of Ps) P Fs (in-filtered (is_on finds_side) P Ps i refl)) (distinct-on finds_side)
          ∙ ap (λ c. Some c) (bool-stays Ps d)

  -- What finds declare is new behind the givens.
  new-finds : (a : Text) → In a (names_of (decls Fs)) → look given_scope.tables a ≡ None
  new-finds a i = scope-other with_given (λ s D a. refl) (decls Gs) empty_scope a (not-given a i)

  given-tables : are_model_tables with_given empty_scope (decls Gs) ≡ true
  given-tables = tables-model with_given (λ s D a. refl) (decls Gs) empty_scope (spelled-on givens_side)
      (givens-domains Ps bounded empty_scope refl (record { seen = λ a i m. absurd (no-yes i) })
      (record { behind = λ a i m. (m, refl) }) (distinct-on givens_side) (λ a i. refl))
      (distinct-on givens_side) (λ a i. refl)

  find-tables : are_model_tables with_find given_scope (decls Fs) ≡ true
  find-tables = tables-model with_find (λ s D a. refl) (decls Fs) given_scope (spelled-on finds_side)
      (finds-domains Ps Fs (some-atoms S o h (is_on finds_side))
      (λ f x d n i. let j = (in-filter (is_on finds_side) (value_plan f x Atom d ((n, 0) ∷ [])) Ps i).0 in
      let c = plan-cell Ps bounded f x d n j in record { bounded = plan-bounds S o h f x d n j; token = c.0; numbers = c.1 })
      given_scope givens-there (distinct-on finds_side) new-finds)
      (distinct-on finds_side) new-finds

  -- The model is one that some text has.
  pub flat-readable : is_readable_model (flat_model S o) ≡ true
  flat-readable =
      let A : Bool = are_model_tables with_given empty_scope (decls Gs) in
      let B : Bool = are_model_tables with_find given_scope (decls Fs) in
      let G : Bool = is_model_goal whole_scope (flat_goal Ps (goal_of (prepared S))) in
      let C : Bool = list_all (is_model_ex whole_scope true []) (goal_rules (goal_of (prepared S)) ++ map (flat_rule Ps)
      (constraints_of (prepared S))) in
      and-both (A && B && G) C
      (and-both (A && B) G (and-both A B given-tables find-tables)
      (goal-model Ps o whole_scope declared (prepared S) h (prepared-tokens S r)))
      (with-goal Ps o whole_scope declared (goal_of (prepared S)) (map (flat_rule Ps) (constraints_of (prepared S)))
      (rules-model Ps o whole_scope declared (prepared S) h (prepared-tokens S r)))

-- So it is of each specification of the class.
pub flat-models-are-readable : FlatModelsAreReadable
flat-models-are-readable S o r h =
    let a : Bool = are_flat_statements S o in
    let b : Bool = are_bounded (plans S o) [] (prepared S) in
    let c : Bool = list_all (has_marks (plans S o)) (constraints_of S) in
    flat-readable S o r (and-left a (b && c) h) (and-left b c (and-right a (b && c) h))
