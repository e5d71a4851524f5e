-- A well typed specification of the class has a model that stands for it, and each solution has exactly one satisfying assignment.
use Rattle.std.proofs.Common.{◌≡◌, refl, sym, ap, ◌∙◌, subst, Bool, true, false, ◌&&◌, ◌||◌, not, if◌then◌else◌, List, [], ◌∷◌, map, pos, Option, Some, None, option_map}
use Rattle.std.specs.List.{list_all}
use Rattle.ess_semantics.specs.Lists.{append_all}
use Rattle.ess_semantics.specs.Values.{Text, Value, number, truth}
use Rattle.ess_semantics.specs.Order.{same_text}
use Rattle.ess_semantics.specs.Names.{Names, look, is_among}
use Rattle.ess_semantics.specs.Trees.{Ex, cell_ex, no_exs, Dom, Stm, given, let_ex, let_dom, needs, find, such_that, minimise, maximise}
use Rattle.ess_semantics.specs.Tables.{Table, one_cell}
use Rattle.ess_semantics.specs.Contexts.{Each}
use Rattle.ess_semantics.specs.DeclaredTables.{TableDecl}
use Rattle.ess_semantics.specs.Operators.{false_where_undefined}
use Rattle.ess_semantics.specs.Meaning.{Env, empty_env, meaning, cell_in, is_bool_dom}
use Rattle.ess_semantics.specs.Prepared.{prepared}
use Rattle.ess_semantics.specs.Assignments.{Assignment, nothing_given, placed}
use Rattle.ess_semantics.specs.Parameters.{all_declared, declared_domain, declared_size, in_each}
use Rattle.ess_semantics.specs.Judgements.{fault}
use Rattle.ess_semantics.specs.Plans.{Options, Side, givens_side, finds_side, Plan, value_plan, plans, plans_for}
use Rattle.ess_semantics.specs.ModelTrees.{Model, Goal, no_goal, least, greatest, all_decls, header_of, goal_of}
use Rattle.ess_semantics.specs.ModelMeaning.{declaration_of, env_of_tables}
use Rattle.ess_semantics.specs.Occurrences.{parts_of, parts_of_dom}
use Rattle.ess_semantics.specs.Constants.{parts_of_decl, parts_of_goal}
use Rattle.ess_semantics.specs.Large.{in_64_bits, is_large_dom}
use Rattle.ess_semantics.specs.LargeModels.{decl_is_large}
use Rattle.ess_semantics.specs.SizeNumbers.{numbers_are_small, part_stays_small, numbers_of_statement_small, types_are_small, with_next, numbers_of_plan}
use Rattle.ess_semantics.specs.Models.{Models, IsExact, is_flat, with_cells, constraints_of}
use Rattle.ess_semantics.proofs.Tests.{and-left, and-right}
use Rattle.ess_simplify_laws.specs.Simplifying.{simplified}
use Rattle.conjure_laws.specs.Members.{In}
use Rattle.conjure_laws.specs.SideBySide.{Along}
use Rattle.conjure_laws.specs.Premises.{Instance, here, is_on}
use Rattle.conjure_laws.specs.ModelPremises.{spelled, Texts}
use Rattle.conjure_laws.proofs.Lists.{each-both, at-item, all-items, in-filter, each-append, each-of-list}
use Rattle.conjure_laws.proofs.Statements.{plan-is-found}
use Rattle.conjure_laws.proofs.Givens.{given-from}
use Rattle.conjure_laws.proofs.PlacedStatements.{at-place}
use Rattle.conjure_laws.proofs.Reduction.{models, exact}
use Rattle.conjure_settled_laws.proofs.SettledStatements.{typed-is-settled}
use Rattle.ess_flat_laws.specs.Flat.{Flat, none_marked}
use Rattle.ess_flat_models_laws.specs.FlatSpecifications.{given_mark, mark_among, are_bounded, scalar_mark, is_flat_truth, is_flat_number, is_flat_statement, are_flat_statements, has_marks}
use Rattle.ess_flat_models_laws.specs.FlatModels.{flat_rule, decl_of, flat_goal, goal_rules, flat_model}
use Rattle.ess_flat_models_laws.specs.Laws.{FlatSpecificationsHaveModels}
use Rattle.ess_flat_models_laws.proofs.PreparedStatements.{truth-flat, number-flat, prepared-constraints, prepared-direction}
use Rattle.ess_flat_models_laws.proofs.SimpleTrees.{is_simple, is_simple_dom, DomNumbers, NumbersAre}
use Rattle.ess_flat_models_laws.proofs.ScalarDomains.{Atom}
use Rattle.ess_flat_models_laws.proofs.SmallDomains.{dom-small}
use Rattle.ess_flat_models_laws.proofs.FlatPlans.{AtomPlan, all-atoms}
use Rattle.ess_flat_models_laws.proofs.GivenValues.{given-has}
use Rattle.ess_flat_models_laws.proofs.GivenPlaces.{PlaceKnown, BoundsKnown, places-known}
use Rattle.ess_flat_models_laws.proofs.Reckoned.{Held}
use Rattle.ess_flat_models_laws.proofs.FlatBounds.{plan-bounds, dom-stays}
use Rattle.ess_flat_models_laws.proofs.FlatValues.{Marked, a_truth, a_number, AllNumbers}
use Rattle.ess_flat_models_laws.proofs.FlatSimplified.{simpler}
use Rattle.ess_flat_models_laws.proofs.FlatCells.{numbers-stay, cells-flat, form-stays}
use Rattle.ess_flat_models_laws.proofs.FlatNames.{no-yes}
use Rattle.ess_flat_models_laws.proofs.FlatGoals.{layers, layers-rules}
use Rattle.ess_flat_models_laws.proofs.FlatDeclared.{given-cells, cells, placed-names}
use Rattle.ess_flat_models_laws.proofs.FlatTexts.{none-any, each-mapped, IsConst, numbers-spelled, dom-spelled, statements-spelled, flat-simple, scalar-simple}

-- ---- tables that hold 0

zero_tables : List TableDecl → Names Table
zero_tables ds = map (λ d. (d.name, one_cell (pos 0))) ds

zero-look : (ds : List TableDecl) (n : Text) → look (zero_tables ds) n ≡ option_map (λ d. one_cell (pos 0)) (declaration_of ds n)
unfolding zero_tables
zero-look [] n = refl
zero-look (d ∷ ds) n = go (same_text d.name n) (zero-look ds n)
  where
    go : (c : Bool) → look (map (λ d. (d.name, one_cell (pos 0))) ds) n ≡ option_map (λ d. one_cell (pos 0)) (declaration_of ds n) →
        (if c then Some (one_cell (pos 0)) else look (map (λ d. (d.name, one_cell (pos 0))) ds) n)
        ≡ option_map (λ d. one_cell (pos 0)) (if c then Some d else declaration_of ds n)
    go true e = refl
    go false e = e

module _ (S : List Stm) (o : Options) (h : are_flat_statements S o ≡ true) where
  abbrev Ps : List Plan
  Ps = plans S o

  tail : (s : Stm) (T : List Stm) → list_all (is_flat_statement Ps o) (s ∷ T) ≡ true → list_all (is_flat_statement Ps o) T ≡ true
  tail s T k = and-right (is_flat_statement Ps o s) (list_all (is_flat_statement Ps o) T) k

  abbrev Gs : List Plan
  Gs = plans_for givens_side S o

  abbrev Fs : List Plan
  Fs = plans_for finds_side S o

  abbrev E : Model
  E = flat_model S o

  abbrev env0 : Env
  env0 = env_of_tables (zero_tables (all_decls E))

  -- Each declared cell holds 0, or false.
  zero-valued : (n : Text) (b : Bool) → cells S o h n ≡ Some b →
      (v : Value) × Marked b v × (meaning (cell_ex b n no_exs) env0 ≡ Some v)
  zero-valued n b e = go (declaration_of (all_decls E) n) refl e b
    where
      no : {b : Bool} → None ≡ Some b → ⊥
      no q = cc

      at : (b : Bool) → look (zero_tables (all_decls E)) n ≡ Some (one_cell (pos 0)) →
          (v : Value) × Marked b v × (meaning (cell_ex b n no_exs) env0 ≡ Some v)
      at true q = (truth false, a_truth, ap (λ o. false_where_undefined true (cell_in true o (Some []))) q)
      at false q = (number (pos 0), a_number, ap (λ o. false_where_undefined false (cell_in false o (Some []))) q)

      go : (r : Option TableDecl) → declaration_of (all_decls E) n ≡ r → {b : Bool} → option_map (λ d. is_bool_dom d.cell) r ≡ Some b →
          (c : Bool) → (v : Value) × Marked c v × (meaning (cell_ex c n no_exs) env0 ≡ Some v)
      go None q e c = absurd (no e)
      go (Some D) q e c = at c (zero-look (all_decls E) n ∙ ap (option_map (λ d. one_cell (pos 0))) q)

  -- ---- rules

  rule-spelled : (e : Ex) (m : Bool) → Flat (scalar_mark Ps) none_marked e m → (is_simple e ≡ true → AllNumbers (IsConst S) e) →
      spelled S (parts_of (flat_rule Ps e)) ≡ true
  rule-spelled e m f n =
      let g = cells-flat Ps (cells S o h) (placed-names S o h) f in
      let s = simpler (cells S o h) env0 zero-valued g in
      let r = simpler (cells S o h) env0 zero-valued s.flat in
      numbers-spelled S none_marked (cells S o h) r.flat
      (r.numbers (IsConst S) (s.numbers (IsConst S) (numbers-stay Ps (IsConst S) f (n (flat-simple (scalar_mark Ps) f)))))

  rules-spelled : (T : List Stm) → Each T (NumbersAre (IsConst S)) → list_all (is_flat_statement Ps o) T ≡ true →
      Each (map (flat_rule Ps) (constraints_of T)) (λ r. spelled S (parts_of r) ≡ true)
  rules-spelled [] n k = tt
  rules-spelled (such_that e ∷ T) n k = (
    rule-spelled e true (truth-flat Ps e (and-left (is_flat_truth Ps e) (list_all (is_flat_statement Ps o) T) k)) n.0,
    rules-spelled T n.1 (and-right (is_flat_truth Ps e) (list_all (is_flat_statement Ps o) T) k),
  )
  rules-spelled (given x d ∷ T) n k = rules-spelled T n.1 (tail (given x d) T k)
  rules-spelled (find x d ∷ T) n k = rules-spelled T n.1 (tail (find x d) T k)
  rules-spelled (let_ex x e ∷ T) n k = rules-spelled T n.1 (tail (let_ex x e) T k)
  rules-spelled (let_dom x d ∷ T) n k = rules-spelled T n.1 (tail (let_dom x d) T k)
  rules-spelled (needs e ∷ T) n k = rules-spelled T n.1 (tail (needs e) T k)
  rules-spelled (minimise e ∷ T) n k = rules-spelled T n.1 (tail (minimise e) T k)
  rules-spelled (maximise e ∷ T) n k = rules-spelled T n.1 (tail (maximise e) T k)
  rules-spelled (s ∷ T) n k = absurd (no-yes k)

  goal-spelled : (T : List Stm) → Each T (NumbersAre (IsConst S)) → list_all (is_flat_statement Ps o) T ≡ true →
      spelled S (parts_of_goal (flat_goal Ps (goal_of T))) ≡ true
  goal-spelled [] n k = refl
  goal-spelled (minimise e ∷ T) n k =
      rule-spelled e false (number-flat Ps e (and-left (is_flat_number Ps e) (list_all (is_flat_statement Ps o) T) k)) n.0
  goal-spelled (maximise e ∷ T) n k =
      rule-spelled e false (number-flat Ps e (and-left (is_flat_number Ps e) (list_all (is_flat_statement Ps o) T) k)) n.0
  goal-spelled (given x d ∷ T) n k = goal-spelled T n.1 (tail (given x d) T k)
  goal-spelled (find x d ∷ T) n k = goal-spelled T n.1 (tail (find x d) T k)
  goal-spelled (let_ex x e ∷ T) n k = goal-spelled T n.1 (tail (let_ex x e) T k)
  goal-spelled (let_dom x d ∷ T) n k = goal-spelled T n.1 (tail (let_dom x d) T k)
  goal-spelled (needs e ∷ T) n k = goal-spelled T n.1 (tail (needs e) T k)
  goal-spelled (such_that e ∷ T) n k = goal-spelled T n.1 (tail (such_that e) T k)
  goal-spelled (s ∷ T) n k = absurd (no-yes k)

  -- `true` spells no number.
  goal-rules-spelled : (g : Goal) → Each (goal_rules g) (λ r. spelled S (parts_of r) ≡ true)
  goal-rules-spelled no_goal = tt
  goal-rules-spelled (least e) = (refl, tt)
  goal-rules-spelled (greatest e) = (refl, tt)

  -- A flat constraint keeps its form.
  forms-stay : (es fs : List Ex) → Along es fs (λ e f. is_flat_truth Ps e ≡ true → f ≡ e) → list_all (has_marks Ps) es ≡ true →
      Along es (map (flat_rule Ps) fs) (λ e r. is_flat Ps e ≡ true → r ≡ with_cells Ps e)
  forms-stay [] [] w k = tt
  forms-stay [] (f ∷ fs) w k = absurd w
  forms-stay (e ∷ es) [] w k = absurd w
  forms-stay (e ∷ es) (f ∷ fs) w k = (
    λ u. let v = marked (is_flat Ps e) (is_flat_truth Ps e) (and-left (has_marks Ps e) (list_all (has_marks Ps) es) k) u in
        let c = truth-flat Ps e v in ap (flat_rule Ps) (w.0 v) ∙ ap simplified (form-stays Ps c u) ∙ form-stays Ps c u,
    forms-stay es fs w.1 (and-right (has_marks Ps e) (list_all (has_marks Ps) es) k),
  )
    where
      marked : (b c : Bool) → not b || c ≡ true → b ≡ true → c ≡ true
      marked true c p q = p
      marked false c p q = cc

  -- ---- declarations

  -- The statement that declares a plan's domain.
  record Declarer (d : Dom) : Type 0 where
    pub stm : Stm
    pub stands : In stm (prepared S)
    pub numbers : is_simple_dom d ≡ true → DomNumbers (IsConst S) d
    pub domain : declared_domain stm ≡ Some d
    pub known : (p : Assignment) (env : Env) → PlaceKnown Ps o p stm env → BoundsKnown Ps o p d env
    pub size : declared_size stm ≡ None

  declarer : (f : Side) (x : Text) (d : Dom) (n : Text) → In (value_plan f x Atom d ((n, 0) ∷ [])) Ps → Declarer d
  declarer givens_side x d n i = record {
    stm = given x d;
    stands = given-from (prepared S) o (all_declared S) _ x Atom d ((n, 0) ∷ []) i;
    numbers = at-item (NumbersAre (IsConst S)) (prepared S) (given x d) (statements-spelled S)
        (given-from (prepared S) o (all_declared S) _ x Atom d ((n, 0) ∷ []) i);
    domain = refl;
    known = λ p env k. k;
    size = refl;
  }
  declarer finds_side x d n i = record {
    stm = find x d;
    stands = plan-is-found S o x Atom d ((n, 0) ∷ []) i;
    numbers = at-item (NumbersAre (IsConst S)) (prepared S) (find x d) (statements-spelled S)
        (plan-is-found S o x Atom d ((n, 0) ∷ []) i);
    domain = refl;
    known = λ p env k. k;
    size = refl;
  }

  of-plan : (P : Plan) → In P Ps → (w : AtomPlan P) → Declarer w.d
  of-plan P i w = declarer w.f w.x w.d w.n (subst (λ P. In P Ps) w.is i)

  decl-spelled : (P : Plan) → In P Ps → spelled S (parts_of_decl (decl_of Ps P)) ≡ true
  decl-spelled P i =
      let w = at-item AtomPlan Ps P (all-atoms S o h) i in
      let r = of-plan P i w in
      let b = plan-bounds S o h w.f w.x w.d w.n (subst (λ P. In P Ps) w.is i) in
      subst (λ P. spelled S (parts_of_decl (decl_of Ps P)) ≡ true) (sym w.is)
      (dom-spelled S (given_mark Ps) Ps (cells S o h) (given-cells S o h) w.d b (r.numbers (scalar-simple (given_mark Ps) w.d b)))

  -- In their places bounds name givens whose cells hold what they are.
  held-there : fault S ≡ None → (p : Assignment) (q : Names Table) → Instance S o p q → (d : Dom) (env : Env) →
      (k : BoundsKnown Ps o p d env) → Held (mark_among k.names (given_mark Ps)) Ps env (env_of_tables q)
  held-there t p q I d env k a e =
      let r = among (is_among k.names a) (given_mark Ps a) refl e in
      let g = given-has S o h t p q I a false r.1 in
      g.held (env_of_tables q) (λ n t e. e) ∙ sym (k.known.known a g.v r.0 g.given)
    where
      among : (b : Bool) (m : Option Bool) → is_among k.names a ≡ b → (if b then m else None) ≡ Some false →
          (is_among k.names a ≡ true) × (m ≡ Some false)
      among true m q e = (q, e)
      among false m q e = cc

  decl-small : fault S ≡ None → are_bounded Ps [] (prepared S) ≡ true → (p : Assignment) (q : Names Table) → Instance S o p q →
      numbers_are_small S o p ≡ true → (P : Plan) → In P Ps → decl_is_large (all_decls E) q (decl_of Ps P) ≡ false
  decl-small t bs p q I m P i =
      let w = at-item AtomPlan Ps P (all-atoms S o h) i in
      let r = of-plan P i w in
      let bo = plan-bounds S o h w.f w.x w.d w.n (subst (λ P. In P Ps) w.is i) in
      let a : Bool = list_all (λ l. numbers_of_statement_small l.stm l.env) (placed S p nothing_given) in
      let b : Bool = list_all in_64_bits (with_next (append_all (map (numbers_of_plan (here S p)) (plans S o)))) in
      let z = at-place S p nothing_given (λ s env. (numbers_of_statement_small s env ≡ true) × PlaceKnown Ps o p s env) r.stm
      r.stands
      (each-both (placed S p nothing_given) (λ l. numbers_of_statement_small l.stm l.env ≡ true) (λ l. PlaceKnown Ps o p l.stm l.env)
      (λ l. (numbers_of_statement_small l.stm l.env ≡ true) × PlaceKnown Ps o p l.stm l.env) (λ l x y. (x, y))
      (each-of-list (placed S p nothing_given) (λ l. numbers_of_statement_small l.stm l.env)
      (and-left a b (and-left (a && b) (types_are_small S p) m)))
      (places-known Ps o p (prepared S) 1 [] empty_env h bs (record { known = λ a v i e. absurd (no-yes i) }))) in
      let k = r.known p z.0 z.1.1 in
      let y : list_all (λ e. part_stays_small e z.0) (parts_of_dom w.d) && true ≡ true =
      ap (λ u. in_each u (λ d. list_all (λ e. part_stays_small e z.0) (parts_of_dom d)) && true) (sym r.domain)
      ∙ ap (λ u. in_each (declared_domain r.stm) (λ d. list_all (λ e. part_stays_small e z.0) (parts_of_dom d))
      && in_each u (λ e. list_all (λ f. part_stays_small f z.0) (parts_of e))) (sym r.size) ∙ z.1.0 in
      subst (λ P. decl_is_large (all_decls E) q (decl_of Ps P) ≡ false) (sym w.is)
      (ap (λ d. is_large_dom d (env_of_tables q)) (dom-stays S o h w.d bo)
      ∙ dom-small (mark_among k.names (given_mark Ps)) Ps z.0 (env_of_tables q) (held-there t p q I w.d z.0 k) w.d k.bounded
      (and-left (list_all (λ e. part_stays_small e z.0) (parts_of_dom w.d)) true y))

  -- What is so of each plan's declaration is so of all.
  each-decl : (F : TableDecl → Type 0) → ((P : Plan) → In P Ps → F (decl_of Ps P)) → Each (all_decls E) F
  each-decl F g = each-append F (map (decl_of Ps) Gs) (map (decl_of Ps) Fs)
      (each-mapped (decl_of Ps) F Gs (all-items (λ P. F (decl_of Ps P)) Gs (λ P i. g P (in-filter (is_on givens_side) P Ps i).0)))
      (each-mapped (decl_of Ps) F Fs (all-items (λ P. F (decl_of Ps P)) Fs (λ P i. g P (in-filter (is_on finds_side) P Ps i).0)))

  -- ---- the text

  texts : fault S ≡ None → are_bounded Ps [] (prepared S) ≡ true → list_all (has_marks Ps) (constraints_of S) ≡ true →
      Texts S o (header_of S o) E (map (flat_rule Ps) (constraints_of (prepared S)))
  texts t bs marks = record {
    header = refl;
    direction = prepared-direction Ps S;
    decls = each-decl (λ d. spelled S (parts_of_decl d) ≡ true) decl-spelled;
    goal = goal-spelled (prepared S) (statements-spelled S) h;
    spells = each-append (λ r. spelled S (parts_of r) ≡ true) (goal_rules (goal_of (prepared S)))
        (map (flat_rule Ps) (constraints_of (prepared S))) (goal-rules-spelled (goal_of (prepared S)))
        (rules-spelled (prepared S) (statements-spelled S) h);
    flat = forms-stay (constraints_of S) (constraints_of (prepared S)) (prepared-constraints S o h) marks;
    small = λ p q I u m. ap not (none-any (decl_is_large (all_decls E) q) (all_decls E)
        (each-decl (λ d. decl_is_large (all_decls E) q d ≡ false) (decl-small t bs p q I m)));
  }

  -- The model stands for the specification, and each solution has exactly one satisfying assignment.
  pub flat-have : are_bounded Ps [] (prepared S) ≡ true → list_all (has_marks Ps) (constraints_of S) ≡ true → fault S ≡ None →
      Models S o (header_of S o) E × IsExact S o E
  flat-have bs marks t =
      let d = (typed-is-settled S t).distinct in (
        models S o E (layers S o h t d) (header_of S o)
            (subst (Texts S o (header_of S o) E) (sym (layers-rules S o h t d)) (texts t bs marks)),
        exact S o E (layers S o h t d),
      )

-- So it is of each.
pub flat-specifications : FlatSpecificationsHaveModels
flat-specifications S o t h =
    let a : Bool = are_flat_statements S o in
    let b : Bool = are_bounded (plans S o) [] (prepared S) in
    let c : Bool = list_all (has_marks (plans S o)) (constraints_of S) in
    let r = and-right a (b && c) h in flat-have S o (and-left a (b && c) h) (and-left b c r) (and-right b c r) t
