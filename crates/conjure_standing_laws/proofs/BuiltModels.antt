-- Of a specification of the class one model alone is built, and it is a right one.
use Rattle.std.proofs.Common.{◌≡◌, refl, sym, ap, ◌∙◌, subst, ℕ, Bool, true, false, ◌&&◌, if◌then◌else◌, List, [], ◌∷◌, ◌++◌, inl, inr, map, filter, pos, Option, Some, None, option_map}
use Rattle.std.specs.List.{list_all}
use Rattle.ess_semantics.specs.Lists.{append_all, or_default}
use Rattle.ess_semantics.specs.Values.{Text, Value, number, truth}
use Rattle.ess_semantics.specs.Order.{same_text}
use Rattle.ess_semantics.specs.Names.{Names, look, keys, all_distinct}
use Rattle.ess_semantics.specs.Trees.{Ex, truth_ex, name_ex, cell_ex, no_exs, Dom, Stm, given, let_ex, let_dom, needs, find, such_that, minimise, maximise}
use Rattle.ess_semantics.specs.Tables.{Table, one_cell}
use Rattle.ess_semantics.specs.Contexts.{Each}
use Rattle.ess_semantics.specs.DeclaredTables.{TableDecl}
use Rattle.ess_semantics.specs.Operators.{false_where_undefined}
use Rattle.ess_semantics.specs.Meaning.{Env, meaning, cell_in, is_bool_dom}
use Rattle.ess_semantics.specs.Prepared.{prepared}
use Rattle.ess_semantics.specs.Parameters.{all_declared}
use Rattle.ess_semantics.specs.Judgements.{fault}
use Rattle.ess_semantics.specs.Solutions.{finds}
use Rattle.ess_semantics.specs.Plans.{Options, Side, givens_side, finds_side, Plan, value_plan, plans, plans_for, is_plan_of}
use Rattle.ess_semantics.specs.ModelTrees.{Header, Goal, no_goal, least, greatest, Model, all_decls, goal_of, header_of}
use Rattle.ess_semantics.specs.ModelMeaning.{declaration_of, env_of_tables}
use Rattle.ess_semantics.specs.Models.{Models, IsExact, scalar_cell, cell_for, with_cells, constraints_of}
use Rattle.ess_semantics.proofs.Tests.{and-left, and-right}
use Rattle.ess_grammar.specs.Models.{Scope}
use Rattle.ess_simplify_laws.specs.Simplifying.{simplified}
use Rattle.ess_guard_laws.specs.Guard.{has_value, make_total, make_natural}
use Rattle.conjure_laws.specs.Members.{In}
use Rattle.conjure_laws.specs.SideBySide.{Along}
use Rattle.conjure_laws.specs.Premises.{is_on}
use Rattle.conjure_laws.proofs.Lists.{at-item, all-items, in-filter}
use Rattle.conjure_laws.proofs.Statements.{plan-is-found}
use Rattle.conjure_laws.proofs.Givens.{given-from}
use Rattle.conjure_laws.proofs.JudgedDistinct.{kept-distinct}
use Rattle.conjure_settled_laws.proofs.SettledStatements.{typed-is-settled}
use Rattle.conjure_model_laws.specs.ToldApart.{reserved}
use Rattle.conjure_model_laws.specs.Shown.{Shows, in_place, shown, shows_nothing, shows_of}
use Rattle.conjure_model_laws.specs.IsBuiltFrom.{tree_of, constraint_tree, condition_tree, objective_tree, channel_trees, declared_of, taken_names}
use Rattle.ess_flat_laws.specs.Flat.{Flat, none_marked, truth as truth_is}
use Rattle.ess_flat_models_laws.specs.FlatSpecifications.{are_bounded, scalar_mark, is_flat_truth, is_flat_statement, is_flat_specification, are_flat_statements, has_marks}
use Rattle.ess_flat_models_laws.specs.FlatModels.{flat_rule, decl_of, flat_goal, goal_rules, flat_model}
use Rattle.ess_flat_models_laws.proofs.PreparedStatements.{truth-flat}
use Rattle.ess_flat_models_laws.proofs.ScalarDomains.{Atom}
use Rattle.ess_flat_models_laws.proofs.FlatPlans.{AtomPlan, all-atoms, some-atoms, found-plan}
use Rattle.ess_flat_models_laws.proofs.FlatValues.{Marked, a_truth, a_number}
use Rattle.ess_flat_models_laws.proofs.FlatSimplified.{simpler}
use Rattle.ess_flat_models_laws.proofs.FlatCells.{cells-flat}
use Rattle.ess_flat_models_laws.proofs.FlatNames.{no-yes, scalar-plan}
use Rattle.ess_flat_models_laws.proofs.FlatBounds.{plan-bounds}
use Rattle.ess_flat_models_laws.proofs.FlatDeclared.{cells, placed-names, given-cells}
use Rattle.ess_flat_models_laws.proofs.FlatGoals.{FlatGoal, flat-goal}
use Rattle.ess_flat_models_laws.proofs.FlatHave.{flat-specifications}
use Rattle.ess_flat_trees_laws.proofs.FlatTrees.{told-flat, shown-flat, guarded-flat, has-value-flat}
use Rattle.conjure_modelling.specs.ess_model_trees.Written.{ComesFrom, next_behind}
use Rattle.conjure_modelling.specs.ess_model_written.RulesWritten.{ConstraintComes, BothCome, GoalComes}
use Rattle.conjure_modelling.specs.ess_model_finds.Finds.{asked_of}
use Rattle.conjure_modelling.specs.ess_model_written.Coming.{DeclsAreWritten}
use Rattle.conjure_modelling.specs.ess_models.Parts.{scope_of_tables}
use Rattle.conjure_modelling.specs.ess_models.Built.{IsBuilt}
use Rattle.conjure_standing_laws.specs.FlatLaws.{BuiltModelsAreRight}
use Rattle.conjure_standing_laws.proofs.FlatChains.{comes-flat}
use Rattle.conjure_standing_laws.proofs.BuiltShows.{first-view, shows-first, kept_in}
use Rattle.conjure_standing_laws.proofs.ShownDomains.{kept-of, in-keys, shows-doms}
use Rattle.conjure_standing_laws.proofs.BuiltParts.{declared-at, decls-written, none-written, none-come}

-- ---- tables that hold 0

abbrev zero_tables : List TableDecl → Names Table
zero_tables ds = map (λ d. (d.name, one_cell (pos 0))) ds

zero-look : (ds : List TableDecl) (n : Text) → look (zero_tables ds) n ≡ option_map (λ d. one_cell (pos 0)) (declaration_of ds n)
zero-look [] n = refl
zero-look (d ∷ ds) n = go (same_text d.name n) (zero-look ds n)
  where
    go : (c : Bool) → look (zero_tables ds) n ≡ option_map (λ d. one_cell (pos 0)) (declaration_of ds n) →
        (if c then Some (one_cell (pos 0)) else look (zero_tables ds) n)
        ≡ option_map (λ d. one_cell (pos 0)) (if c then Some d else declaration_of ds n)
    go true e = refl
    go false e = e

module _ (S : List Stm) (o : Options) (h : are_flat_statements S o ≡ true) (b : are_bounded (plans S o) [] (prepared S) ≡ true)
    (t : fault S ≡ None) where
  abbrev Ps : List Plan
  Ps = plans S o

  abbrev E0 : Model
  E0 = flat_model S o

  abbrev sh : Shows
  sh = shows_of S o

  abbrev env0 : Env
  env0 = env_of_tables (zero_tables (all_decls E0))

  -- Each declared cell holds 0, or false.
  zero-valued : (n : Text) (b : Bool) → cells S o h n ≡ Some b →
      (v : Value) × Marked b v × (meaning (cell_ex b n no_exs) env0 ≡ Some v)
  zero-valued n b e = go (declaration_of (all_decls E0) n) refl e
    where
      no : None ≡ Some b → ⊥
      no q = cc

      at : (b : Bool) → look (zero_tables (all_decls E0)) n ≡ Some (one_cell (pos 0)) →
          (v : Value) × Marked b v × (meaning (cell_ex b n no_exs) env0 ≡ Some v)
      at true q = (truth false, a_truth, ap (λ o. false_where_undefined true (cell_in true o (Some []))) q)
      at false q = (number (pos 0), a_number, ap (λ o. false_where_undefined false (cell_in false o (Some []))) q)

      go : (r : Option TableDecl) → declaration_of (all_decls E0) n ≡ r → option_map (λ d. is_bool_dom d.cell) r ≡ Some b →
          (v : Value) × Marked b v × (meaning (cell_ex b n no_exs) env0 ≡ Some v)
      go None q e = absurd (no e)
      go (Some D) q e = at b (zero-look (all_decls E0) n ∙ ap (option_map (λ d. one_cell (pos 0))) q)

  -- So simplifying leaves flat trees flat.
  pub simple : (e : Ex) (m : Bool) → Flat none_marked (cells S o h) e m → Flat none_marked (cells S o h) (simplified e) m
  simple e m f = (simpler (cells S o h) env0 zero-valued f).flat

  -- The statement of each plan.
  planned-kept : (f : Side) (x : Text) (d : Dom) (n : Text) → In (value_plan f x Atom d ((n, 0) ∷ [])) Ps → In (x, d) (kept_in (prepared S))
  planned-kept givens_side x d n i =
      kept-of (prepared S) (given x d) x d (given-from (prepared S) o (all_declared S) _ x Atom d ((n, 0) ∷ []) i) refl
  planned-kept finds_side x d n i = kept-of (prepared S) (find x d) x d (plan-is-found S o x Atom d ((n, 0) ∷ []) i) refl

  -- The cell of a name is shown for it.
  names-shown : (a : Text) (m : Bool) → scalar_mark Ps a ≡ Some m → in_place sh.first a ≡ cell_for a (scalar_cell Ps a)
  names-shown a m e =
      let r = scalar-plan Ps (all-atoms S o h) a m e in
      ap (λ u. or_default u (name_ex a))
      (shows-first Ps o a (cell_for a (scalar_cell Ps a)) (first-view Ps (all-atoms S o h) a m e) (prepared S) shows_nothing h
      (inr (in-keys a r.d (kept_in (prepared S)) (planned-kept r.f a r.d r.n r.planned))))

  distinct : all_distinct (keys (kept_in (prepared S))) ≡ true
  distinct = kept-distinct S (ap (λ f. elim f [ None ↦ true | Some g ↦ false ]) t)

  -- What is declared of a plan.
  declared : (P : Plan) → AtomPlan P → In P Ps → declared_of sh P ≡ decl_of Ps P ∷ []
  declared P w i =
      subst (λ P. declared_of sh P ≡ decl_of Ps P ∷ []) (sym w.is)
      (declared-at Ps (cells S o h) (given-cells S o h) simple sh w.f w.x w.d w.n w.scalar
      (shows-doms Ps o (all-atoms S o h) (prepared S) [] shows_nothing w.x w.d h b (record { seen = λ a i m. absurd (no-yes i) }) distinct
      (inr (planned-kept w.f w.x w.d w.n (subst (λ P. In P Ps) w.is i)))))

  -- So it is of the plans of a side.
  pub all-declared : (f : Side) → Each (plans_for f S o) (λ P. declared_of sh P ≡ decl_of Ps P ∷ [])
  all-declared f = all-items (λ P. declared_of sh P ≡ decl_of Ps P ∷ []) (plans_for f S o)
      (λ P i. let j = (in-filter (is_on f) P Ps i).0 in declared P (at-item AtomPlan Ps P (all-atoms S o h) j) j)

  -- The declarations that are written for a side.
  pub side-written : (f : Side) (add : Scope → TableDecl → Scope) (s : Scope) (gs : List TableDecl) →
      DeclsAreWritten add (taken_names S o) sh.next s (append_all (map (declared_of sh) (plans_for f S o))) gs →
      gs ≡ map (decl_of Ps) (plans_for f S o)
  side-written f add s gs w =
      decls-written Ps (cells S o h) (given-cells S o h) simple add (taken_names S o) sh.next sh (plans_for f S o)
      (some-atoms S o h (is_on f))
      (λ g x d n i. plan-bounds S o h g x d n (in-filter (is_on f) (value_plan g x Atom d ((n, 0) ∷ [])) Ps i).0)
      (all-declared f) s gs w

  -- A flat tree over tables, with its bound names told apart.
  over-tables : (e : Ex) (m : Bool) → Flat (scalar_mark Ps) none_marked e m → tree_of sh e ≡ with_cells Ps e
  over-tables e m f = ap (λ q. shown sh q.0) (told-flat (scalar_mark Ps) f sh.next) ∙ shown-flat Ps sh names-shown f

  -- With cells in the place of names it is flat.
  pub over-cells : (e : Ex) (m : Bool) → Flat (scalar_mark Ps) none_marked e m → Flat none_marked (cells S o h) (with_cells Ps e) m
  over-cells e m f = cells-flat Ps (cells S o h) (placed-names S o h) f

  -- The tree of a constraint is the constraint with cells.
  pub tree-is : (e : Ex) → Flat (scalar_mark Ps) none_marked e true → constraint_tree sh e ≡ with_cells Ps e
  tree-is e f =
      ap (make_natural (reserved 0) (reserved 1)) (over-tables e true f)
      ∙ guarded-flat (cells S o h) (reserved 0) (reserved 1) true (over-cells e true f) []

  -- So is that of an objective.
  pub objective-is : (e : Ex) → Flat (scalar_mark Ps) none_marked e false → objective_tree sh e ≡ with_cells Ps e
  objective-is e f =
      ap (make_total (reserved 0) (reserved 1)) (over-tables e false f)
      ∙ guarded-flat (cells S o h) (reserved 0) (reserved 1) false (over-cells e false f) []

  -- That of the rule that it has a value is `true`.
  pub condition-is : (e : Ex) → Flat (scalar_mark Ps) none_marked e false → condition_tree sh e ≡ truth_ex true
  condition-is e f =
      ap (has_value (reserved 0) (reserved 1)) (over-tables e false f)
      ∙ has-value-flat (cells S o h) (reserved 0) (reserved 1) (over-cells e false f)

  -- What is written of a flat tree.
  written-is : (s : Scope) (k : ℕ) (t e r : Ex) (m : Bool) → t ≡ with_cells Ps e → Flat (scalar_mark Ps) none_marked e m →
      ComesFrom s (taken_names S o) k t (Some r) → r ≡ flat_rule Ps e
  written-is s k t e r m q f w =
      comes-flat (cells S o h) simple s (taken_names S o) k (with_cells Ps e) r m (over-cells e m f)
      (subst (λ z. ComesFrom s (taken_names S o) k z (Some r)) q w)

  true-is : (s : Scope) (k : ℕ) (t r : Ex) → t ≡ truth_ex true → ComesFrom s (taken_names S o) k t (Some r) → r ≡ truth_ex true
  true-is s k t r q w =
      comes-flat (cells S o h) simple s (taken_names S o) k (truth_ex true) r true truth_is
      (subst (λ z. ComesFrom s (taken_names S o) k z (Some r)) q w)

  rules-are : (s : Scope) (T : List Stm) → list_all (is_flat_statement Ps o) T ≡ true → (rs : List Ex) →
      Along (constraints_of T) rs (λ c e. ConstraintComes s (taken_names S o) sh c (Some e)) → rs ≡ map (flat_rule Ps) (constraints_of T)
  rules-are s [] k [] w = refl
  rules-are s [] k (r ∷ rs) w = absurd w
  rules-are s (given x d ∷ T) k rs w =
      rules-are s T (and-right (is_flat_statement Ps o (given x d)) (list_all (is_flat_statement Ps o) T) k) rs w
  rules-are s (find x d ∷ T) k rs w =
      rules-are s T (and-right (is_flat_statement Ps o (find x d)) (list_all (is_flat_statement Ps o) T) k) rs w
  rules-are s (needs e ∷ T) k rs w =
      rules-are s T (and-right (is_flat_statement Ps o (needs e)) (list_all (is_flat_statement Ps o) T) k) rs w
  rules-are s (let_ex y e ∷ T) k rs w =
      rules-are s T (and-right (is_flat_statement Ps o (let_ex y e)) (list_all (is_flat_statement Ps o) T) k) rs w
  rules-are s (let_dom y d ∷ T) k rs w =
      rules-are s T (and-right (is_flat_statement Ps o (let_dom y d)) (list_all (is_flat_statement Ps o) T) k) rs w
  rules-are s (minimise e ∷ T) k rs w =
      rules-are s T (and-right (is_flat_statement Ps o (minimise e)) (list_all (is_flat_statement Ps o) T) k) rs w
  rules-are s (maximise e ∷ T) k rs w =
      rules-are s T (and-right (is_flat_statement Ps o (maximise e)) (list_all (is_flat_statement Ps o) T) k) rs w
  rules-are s (such_that e ∷ T) k [] w = absurd w
  rules-are s (such_that e ∷ T) k (r ∷ rs) w =
      let f = truth-flat Ps e (and-left (is_flat_truth Ps e) (list_all (is_flat_statement Ps o) T) k) in
      ap (λ z. z ∷ rs) (written-is s (next_behind sh e) (constraint_tree sh e) e r true (tree-is e f) f w.0)
      ∙ ap (λ l. flat_rule Ps e ∷ l) (rules-are s T (and-right (is_flat_truth Ps e) (list_all (is_flat_statement Ps o) T) k) rs w.1)
  rules-are s (u ∷ T) k rs w = absurd (no-yes k)

  both-are : (s : Scope) (e f r : Ex) → Flat (scalar_mark Ps) none_marked e false → BothCome s (taken_names S o) sh e f r →
      (f ≡ flat_rule Ps e) × (r ∷ [] ≡ truth_ex true ∷ [])
  both-are s e f r g w = (
    written-is s (next_behind sh e) (objective_tree sh e) e f false (objective-is e g) g w.objective,
    ap (λ z. z ∷ []) (true-is s (next_behind sh e) (condition_tree sh e) r (condition-is e g) w.condition),
  )

  -- What comes of the objective.
  goal-is : (s : Scope) (g : Goal) → FlatGoal Ps g → (k : Goal) (rs : List Ex) → GoalComes s (taken_names S o) sh g k rs →
      (k ≡ flat_goal Ps g) × (rs ≡ goal_rules g)
  goal-is s no_goal i no_goal rs w = (refl, w)
  goal-is s no_goal i (least f) rs w = absurd w
  goal-is s no_goal i (greatest f) rs w = absurd w
  goal-is s (least e) i (least f) (r ∷ []) w = let z = both-are s e f r i w in (ap least z.0, z.1)
  goal-is s (least e) i (least f) [] w = absurd w
  goal-is s (least e) i (least f) (r ∷ q ∷ rs) w = absurd w
  goal-is s (least e) i no_goal rs w = absurd w
  goal-is s (least e) i (greatest f) rs w = absurd w
  goal-is s (greatest e) i (greatest f) (r ∷ []) w = let z = both-are s e f r i w in (ap greatest z.0, z.1)
  goal-is s (greatest e) i (greatest f) [] w = absurd w
  goal-is s (greatest e) i (greatest f) (r ∷ q ∷ rs) w = absurd w
  goal-is s (greatest e) i no_goal rs w = absurd w
  goal-is s (greatest e) i (least f) rs w = absurd w

  -- Where each find has one plan there are no channels.
  pub no-channels : (xs : List Text) → ((x : Text) → In x xs → (P : Plan) × (filter (is_plan_of x) Ps ≡ P ∷ [])) →
      append_all (map (λ x. channel_trees sh (filter (is_plan_of x) Ps)) xs) ≡ []
  no-channels [] g = refl
  no-channels (x ∷ xs) g =
      ap (λ l. channel_trees sh l ++ append_all (map (λ x. channel_trees sh (filter (is_plan_of x) Ps)) xs)) (g x (inl refl)).1
      ∙ no-channels xs (λ y i. g y (inr i))

  -- Nothing is asked of tables of scalars.
  pub nothing-asked : (Qs : List Plan) → Each Qs AtomPlan → Each (map (asked_of sh) Qs) (λ c. c ≡ truth_ex true)
  nothing-asked [] w = tt
  nothing-asked (P ∷ Qs) w = (subst (λ P. asked_of sh P ≡ truth_ex true) (sym w.0.is) refl, nothing-asked Qs w.1)

  -- The one model that is built.
  pub one-model : (H : Header) (E : Model) → IsBuilt S o H E → (H ≡ header_of S o) × (E ≡ E0)
  one-model H E B =
      let sc : Scope = scope_of_tables E.givens E.finds in
      let R = B.rules in
      let gs = side-written givens_side _ _ E.givens B.declared.givens in
      let fs = side-written finds_side _ _ E.finds B.declared.finds in
      let st = none-written _ (taken_names S o) sh.next _ R.structures
      (nothing-asked (plans_for finds_side S o) (some-atoms S o h (is_on finds_side))) R.structures_written in
      let ch = none-come _ _ R.channels (no-channels (finds S) (λ x i. found-plan S o h x (typed-is-settled S t).distinct i))
      R.channels_written in
      let go = goal-is sc (goal_of (prepared S)) (flat-goal Ps o (prepared S) h) E.goal R.goals R.goal_written in
      let co = rules-are sc (prepared S) h R.constraints R.constraints_written.each in
      let ru : E.rules ≡ goal_rules (goal_of (prepared S)) ++ map (flat_rule Ps) (constraints_of (prepared S)) =
      R.all ∙ ap (λ l. l ++ R.channels ++ R.goals ++ R.constraints) st ∙ ap (λ l. l ++ R.goals ++ R.constraints) ch
      ∙ ap (λ l. l ++ R.constraints) go.1 ∙ ap (λ l. goal_rules (goal_of (prepared S)) ++ l) co in (
        B.header,
        ap (λ z. record { givens = z; finds = E.finds; goal = E.goal; rules = E.rules }) gs
            ∙ ap (λ z. record { givens = E0.givens; finds = z; goal = E.goal; rules = E.rules }) fs
            ∙ ap (λ z. record { givens = E0.givens; finds = E0.finds; goal = z; rules = E.rules }) go.0
            ∙ ap (λ z. record { givens = E0.givens; finds = E0.finds; goal = E0.goal; rules = z }) ru,
      )

-- So it is of each specification of the class.
one-is-built : (S : List Stm) (o : Options) (H : Header) (E : Model) → fault S ≡ None → is_flat_specification S o ≡ true →
    IsBuilt S o H E → (H ≡ header_of S o) × (E ≡ flat_model S o)
one-is-built S o H E t h B =
    let a : Bool = are_flat_statements S o in
    let b : Bool = are_bounded (plans S o) [] (prepared S) in
    let c : Bool = list_all (has_marks (plans S o)) (constraints_of S) in
    one-model S o (and-left a (b && c) h) (and-left b c (and-right a (b && c) h)) t H E B

-- And it is a right one.
right-model : (S : List Stm) (o : Options) (H : Header) (E : Model) → fault S ≡ None → is_flat_specification S o ≡ true →
    IsBuilt S o H E → Models S o H E × IsExact S o E
right-model S o H E t h B =
    let r = one-is-built S o H E t h B in
    subst (λ E. Models S o H E × IsExact S o E) (sym r.1)
    (subst (λ H. Models S o H (flat_model S o) × IsExact S o (flat_model S o)) (sym r.0) (flat-specifications S o t h))

pub built-models-are-right : BuiltModelsAreRight
built-models-are-right = record { one = one-is-built; right = right-model }
