-- The objective of a model of the class is worth what that of the specification is. So all layers stand.
use Rattle.std.proofs.Common.{◌≡◌, refl, sym, ap, ◌∙◌, ℕ, suc, true, false, ◌&&◌, List, [], ◌∷◌, ◌++◌, map, ℤ, Option, Some, None, is_some}
use Rattle.std.specs.List.{list_all}
use Rattle.ess_semantics.specs.Lists.{append_all, and_then, or_else}
use Rattle.ess_semantics.specs.Values.{Value, number}
use Rattle.ess_semantics.specs.Names.{Names, all_distinct}
use Rattle.ess_semantics.specs.Trees.{Ex, Stm, given, let_ex, let_dom, needs, find, such_that, minimise, maximise}
use Rattle.ess_semantics.specs.Tables.{Table}
use Rattle.ess_semantics.specs.Operators.{int_of}
use Rattle.ess_semantics.specs.Meaning.{Env, empty_env, meaning}
use Rattle.ess_semantics.specs.Prepared.{prepared}
use Rattle.ess_semantics.specs.Assignments.{Assignment, env_of, placed_from, env_after}
use Rattle.ess_semantics.specs.Solutions.{finds, objective_has_value}
use Rattle.ess_semantics.specs.Judgements.{fault}
use Rattle.ess_semantics.specs.Plans.{Options, finds_side, Plan, plans, plans_for, value_names}
use Rattle.ess_semantics.specs.ModelTrees.{Model, Goal, no_goal, least, greatest, goal_of}
use Rattle.ess_semantics.specs.ModelMeaning.{env_of_tables}
use Rattle.ess_semantics.specs.Satisfaction.{rule_holds, goal_value}
use Rattle.ess_semantics.specs.Contexts.{Each}
use Rattle.ess_semantics.specs.Models.{constraints_of, objective_at}
use Rattle.ess_semantics.proofs.Tests.{and-left, and-right}
use Rattle.conjure_laws.specs.Premises.{Instance, IsSettled}
use Rattle.conjure_laws.specs.ModelPremises.{Canonical, GoalMeans, Layers}
use Rattle.conjure_laws.proofs.SetChannels.{none, none_of}
use Rattle.ess_flat_laws.specs.Flat.{Flat, none_marked}
use Rattle.ess_flat_models_laws.specs.FlatSpecifications.{scalar_mark, is_flat_number, is_flat_statement, are_flat_statements}
use Rattle.ess_flat_models_laws.specs.FlatModels.{flat_rule, flat_goal, goal_rules, flat_model}
use Rattle.ess_flat_models_laws.proofs.PreparedStatements.{number-flat}
use Rattle.ess_flat_models_laws.proofs.FlatBounds.{base}
use Rattle.ess_flat_models_laws.proofs.FlatLayers.{structures-mean, channels-mean}
use Rattle.ess_flat_models_laws.proofs.FlatValues.{Marked, a_number, flat-value}
use Rattle.ess_flat_models_laws.proofs.FlatCells.{cells-flat, cells-mean}
use Rattle.ess_flat_models_laws.proofs.FlatNames.{no-yes}
use Rattle.ess_flat_models_laws.proofs.FlatDeclared.{cells, placed-names}
use Rattle.ess_flat_models_laws.proofs.FlatRules.{cells-valued, names-valued, written-value, rules-along}

module _ (Ps : List Plan) where
  -- The objective is a flat number.
  abbrev pub FlatGoal : Goal → Type 0
  FlatGoal no_goal = Unit {0}
  FlatGoal (least e) = Flat (scalar_mark Ps) none_marked e false
  FlatGoal (greatest e) = Flat (scalar_mark Ps) none_marked e false

  module _ (o : Options) where
    -- The objective of a specification of the class is flat.
    pub flat-goal : (T : List Stm) → list_all (is_flat_statement Ps o) T ≡ true → FlatGoal (goal_of T)
    flat-goal [] k = tt
    flat-goal (given x d ∷ T) k = flat-goal T (and-right (is_flat_statement Ps o (given x d)) (list_all (is_flat_statement Ps o) T) k)
    flat-goal (find x d ∷ T) k = flat-goal T (and-right (is_flat_statement Ps o (find x d)) (list_all (is_flat_statement Ps o) T) k)
    flat-goal (let_ex x e ∷ T) k = flat-goal T (and-right (is_flat_statement Ps o (let_ex x e)) (list_all (is_flat_statement Ps o) T) k)
    flat-goal (let_dom x d ∷ T) k = flat-goal T (and-right (is_flat_statement Ps o (let_dom x d)) (list_all (is_flat_statement Ps o) T) k)
    flat-goal (needs e ∷ T) k = flat-goal T (and-right (is_flat_statement Ps o (needs e)) (list_all (is_flat_statement Ps o) T) k)
    flat-goal (such_that e ∷ T) k = flat-goal T (and-right (is_flat_statement Ps o (such_that e)) (list_all (is_flat_statement Ps o) T) k)
    flat-goal (minimise e ∷ T) k = number-flat Ps e (and-left (is_flat_number Ps e) (list_all (is_flat_statement Ps o) T) k)
    flat-goal (maximise e ∷ T) k = number-flat Ps e (and-left (is_flat_number Ps e) (list_all (is_flat_statement Ps o) T) k)
    flat-goal (s ∷ T) k = absurd (no-yes k)

module _ (S : List Stm) (o : Options) (h : are_flat_statements S o ≡ true) where
  abbrev Ps : List Plan
  Ps = plans S o

  abbrev Fs : List Plan
  Fs = plans_for finds_side S o

  abbrev E : Model
  E = flat_model S o

  -- What an objective is worth.
  abbrev worth_of : Goal → Env → Option ℤ
  worth_of no_goal env = None
  worth_of (least e) env = and_then (meaning e env) int_of
  worth_of (greatest e) env = and_then (meaning e env) int_of

  module _ (t : fault S ≡ None) (p a : Assignment) (q c : Names Table) (I : Instance S o p q) (C : Canonical S o p a c) where
    number-value : (e : Ex) → Flat (scalar_mark Ps) none_marked e false → (n : ℤ) × (meaning e (env_of S p a) ≡ Some (number n))
    number-value e f =
        let g = cells-flat Ps (cells S o h) (placed-names S o h) f in
        let v = flat-value (cells S o h) (env_of_tables (q ++ c)) (cells-valued S o h t p a q c I C) g in
        at v.0 v.1 (sym (cells-mean Ps (env_of S p a) (env_of_tables (q ++ c)) (names-valued S o h t p a q c I C) f) ∙ v.2)
      where
        at : (v : Value) → Marked false v → meaning e (env_of S p a) ≡ Some v → (n : ℤ) × (meaning e (env_of S p a) ≡ Some (number n))
        at v (a_number {k = k}) z = (k, z)

    -- The objective has a value in its place, that behind all statements.
    pub objectives : (T : List Stm) (k : ℕ) (env : Env) → list_all (is_flat_statement Ps o) T ≡ true →
        Each (placed_from k T p a env) (λ l. IsSettled S p a l.stm l.env) →
        (list_all (λ l. objective_has_value l.stm l.env) (placed_from k T p a env) ≡ true)
        × (objective_at (placed_from k T p a env) ≡ worth_of (goal_of T) (env_of S p a))
    objectives [] k env z w = (refl, refl)
    objectives (given x d ∷ T) k env z w = objectives T (suc k) (env_after (given x d) p a env)
        (and-right (is_flat_statement Ps o (given x d)) (list_all (is_flat_statement Ps o) T) z) w.1
    objectives (find x d ∷ T) k env z w = objectives T (suc k) (env_after (find x d) p a env)
        (and-right (is_flat_statement Ps o (find x d)) (list_all (is_flat_statement Ps o) T) z) w.1
    objectives (let_ex x e ∷ T) k env z w = objectives T (suc k) (env_after (let_ex x e) p a env)
        (and-right (is_flat_statement Ps o (let_ex x e)) (list_all (is_flat_statement Ps o) T) z) w.1
    objectives (let_dom x d ∷ T) k env z w = objectives T (suc k) (env_after (let_dom x d) p a env)
        (and-right (is_flat_statement Ps o (let_dom x d)) (list_all (is_flat_statement Ps o) T) z) w.1
    objectives (needs e ∷ T) k env z w = objectives T (suc k) (env_after (needs e) p a env)
        (and-right (is_flat_statement Ps o (needs e)) (list_all (is_flat_statement Ps o) T) z) w.1
    objectives (such_that e ∷ T) k env z w = objectives T (suc k) (env_after (such_that e) p a env)
        (and-right (is_flat_statement Ps o (such_that e)) (list_all (is_flat_statement Ps o) T) z) w.1
    objectives (minimise e ∷ T) k env z w =
        let n = number-value e (number-flat Ps e (and-left (is_flat_number Ps e) (list_all (is_flat_statement Ps o) T) z)) in
        let r = objectives T (suc k) (env_after (minimise e) p a env)
        (and-right (is_flat_number Ps e) (list_all (is_flat_statement Ps o) T) z) w.1 in (
          ap (λ u. is_some u && list_all (λ l. objective_has_value l.stm l.env) (placed_from (suc k) T p a env)) (w.0 ∙ n.1) ∙ r.0,
          ap (λ u. or_else (and_then u int_of) (objective_at (placed_from (suc k) T p a env))) (w.0 ∙ n.1)
              ∙ sym (ap (λ u. and_then u int_of) n.1),
        )
    objectives (maximise e ∷ T) k env z w =
        let n = number-value e (number-flat Ps e (and-left (is_flat_number Ps e) (list_all (is_flat_statement Ps o) T) z)) in
        let r = objectives T (suc k) (env_after (maximise e) p a env)
        (and-right (is_flat_number Ps e) (list_all (is_flat_statement Ps o) T) z) w.1 in (
          ap (λ u. is_some u && list_all (λ l. objective_has_value l.stm l.env) (placed_from (suc k) T p a env)) (w.0 ∙ n.1) ∙ r.0,
          ap (λ u. or_else (and_then u int_of) (objective_at (placed_from (suc k) T p a env))) (w.0 ∙ n.1)
              ∙ sym (ap (λ u. and_then u int_of) n.1),
        )
    objectives (s ∷ T) k env z w = absurd (no-yes z)

    -- The model's objective is worth the same.
    pub goal-worth : (g : Goal) → FlatGoal Ps g →
        goal_value (record { givens = E.givens; finds = E.finds; goal = flat_goal Ps g; rules = E.rules }) q c ≡ worth_of g (env_of S p a)
    goal-worth no_goal f = refl
    goal-worth (least e) f = ap (λ o. and_then o int_of) (written-value S o h t p a q c I C e false f)
    goal-worth (greatest e) f = ap (λ o. and_then o int_of) (written-value S o h t p a q c I C e false f)

    -- Its rule holds.
    pub goal-holds : (g : Goal) → list_all (rule_holds E q c) (goal_rules g) ≡ true
    goal-holds no_goal = refl
    goal-holds (least e) = refl
    goal-holds (greatest e) = refl

  -- The objective is worth what it is in the specification.
  goals-mean : fault S ≡ None → GoalMeans S o E (goal_rules (goal_of (prepared S)))
  goals-mean t = record {
    has_value = λ p a q c I C. goal-holds t p a q c I C (goal_of (prepared S))
        ∙ sym (objectives t p a q c I C (prepared S) 1 empty_env h ((base S o h t).ground.settled.settled p a I.param)).0;
    value = λ p a q c I C v. goal-worth t p a q c I C (goal_of (prepared S)) (flat-goal Ps o (prepared S) h)
        ∙ sym (objectives t p a q c I C (prepared S) 1 empty_env h ((base S o h t).ground.settled.settled p a I.param)).1;
  }

  -- ---- all layers

  no-rules : {A : Type 0} (xs : List A) → append_all (map (λ x. none) xs) ≡ none
  no-rules [] = refl
  no-rules (x ∷ xs) = no-rules xs

  no-channels : {A : Type 0} (xs : List A) → append_all (map append_all (map (λ x. none_of) xs)) ≡ none
  no-channels [] = refl
  no-channels (x ∷ xs) = no-channels xs

  -- The layers, without a premise but the judgements.
  pub layers : fault S ≡ None → all_distinct (finds S) ≡ true → Layers S o E
  layers t d = record {
    base = base S o h t;
    rules = record {
      structures = map (λ x. none) Fs;
      channels = map (λ x. none_of) (value_names finds_side S);
      goals = goal_rules (goal_of (prepared S));
      rules = map (flat_rule Ps) (constraints_of (prepared S));
      all = sym (ap (λ l. (l ++ append_all (map append_all (map (λ x. none_of) (value_names finds_side S)))
          ++ goal_rules (goal_of (prepared S))) ++ map (flat_rule Ps) (constraints_of (prepared S))) (no-rules Fs)
          ∙ ap (λ l. (l ++ goal_rules (goal_of (prepared S))) ++ map (flat_rule Ps) (constraints_of (prepared S)))
          (no-channels (value_names finds_side S)));
      structures_mean = structures-mean S o h;
      channels_mean = channels-mean S o h d;
      goals_mean = goals-mean t;
      rules_mean = rules-along S o h t (prepared S) h;
    };
  }

  -- Their rules are those of the model.
  pub layers-rules : (t : fault S ≡ None) (d : all_distinct (finds S) ≡ true) → (layers t d).rules.rules ≡ map (flat_rule Ps)
      (constraints_of (prepared S))
  unfolding layers
  layers-rules t d = refl
