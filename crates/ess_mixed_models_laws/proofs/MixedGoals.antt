-- The objective of a model of the class is worth what that of the specification is.
use Rattle.std.proofs.Common.{◌≡◌, refl, sym, ap, ◌∙◌, ℕ, suc, Bool, true, false, ◌&&◌, ◌||◌, List, [], ◌∷◌, ◌++◌, ℤ, Option, Some, None, is_some}
use Rattle.std.specs.List.{list_all}
use Rattle.ess_semantics.specs.Lists.{and_then, or_else}
use Rattle.ess_semantics.specs.Values.{Value, number}
use Rattle.ess_semantics.specs.Names.{Names}
use Rattle.ess_semantics.specs.Trees.{Ex, Stm, given, given_enum, let_ex, let_dom, let_enum, let_unnamed, needs, find, such_that, minimise, maximise}
use Rattle.ess_semantics.specs.Tables.{Table}
use Rattle.ess_semantics.specs.Operators.{int_of}
use Rattle.ess_semantics.specs.Meaning.{Env, empty_env, meaning}
use Rattle.ess_semantics.specs.Prepared.{prepared}
use Rattle.ess_semantics.specs.Assignments.{Assignment, env_of, placed_from, env_after}
use Rattle.ess_semantics.specs.Solutions.{objective_has_value}
use Rattle.ess_semantics.specs.Judgements.{fault}
use Rattle.ess_semantics.specs.Plans.{Options, Plan, plans}
use Rattle.ess_semantics.specs.ModelTrees.{Model, Goal, no_goal, least, greatest, all_decls, goal_of}
use Rattle.ess_semantics.specs.ModelMeaning.{env_of_tables, model_value}
use Rattle.ess_semantics.specs.Satisfaction.{rule_holds, goal_value}
use Rattle.ess_semantics.specs.Contexts.{Each}
use Rattle.ess_semantics.specs.Models.{objective_at}
use Rattle.ess_semantics.proofs.Tests.{and-left, and-right}
use Rattle.conjure_laws.specs.Premises.{Instance, IsSettled}
use Rattle.conjure_laws.specs.ModelPremises.{Canonical, GoalMeans}
use Rattle.ess_flat_models_laws.specs.ess_flat_laws.Flat.{Flat, none_marked}
use Rattle.ess_flat_models_laws.specs.FlatSpecifications.{scalar_mark, is_flat_number}
use Rattle.ess_flat_models_laws.specs.FlatModels.{goal_rules}
use Rattle.ess_flat_models_laws.proofs.PreparedStatements.{number-flat}
use Rattle.ess_flat_models_laws.proofs.FlatValues.{Marked, a_number, flat-value}
use Rattle.ess_flat_models_laws.proofs.FlatCells.{cells-flat, cells-mean}
use Rattle.ess_mixed_models_laws.specs.MixedSpecifications.{is_setwise_objective, is_mixed_statement, are_mixed_statements}
use Rattle.ess_mixed_models_laws.specs.MixedModels.{IsNumberOf, of_flat_number, of_setwise_number, IsGoalOf, of_no_goal, of_least, of_greatest}
use Rattle.ess_mixed_models_laws.proofs.SingleObjective.{have_none, OneObjective, one-objective}
use Rattle.ess_mixed_models_laws.proofs.ScalarCells.{cells, placed-names}
use Rattle.ess_mixed_models_laws.proofs.MixedLayers.{model_with, base}
use Rattle.ess_mixed_models_laws.proofs.ScalarValues.{cells-valued, names-valued, written-value}

-- What an objective is worth.
abbrev worth_of : Goal → Env → Option ℤ
worth_of no_goal env = None
worth_of (least e) env = and_then (meaning e env) int_of
worth_of (greatest e) env = and_then (meaning e env) int_of

module _ (S : List Stm) (o : Options) where
  abbrev Ps : List Plan
  Ps = plans S o

  abbrev test : Stm → Bool
  test s = is_mixed_statement S o s

  head : (s : Stm) (T : List Stm) → list_all test (s ∷ T) ≡ true → test s ≡ true
  head s T k = and-left (test s) (list_all test T) k

  rest : (s : Stm) (T : List Stm) → list_all test (s ∷ T) ≡ true → list_all test T ≡ true
  rest s T k = and-right (test s) (list_all test T) k

  -- What is asked of an objective.
  abbrev pub GoalAsked : Goal → Type 0
  GoalAsked no_goal = Unit {0}
  GoalAsked (least e) = is_flat_number Ps e || is_setwise_objective Ps S e ≡ true
  GoalAsked (greatest e) = is_flat_number Ps e || is_setwise_objective Ps S e ≡ true

  -- The objective of a specification of the class is so.
  pub goal-asked : (T : List Stm) → list_all test T ≡ true → GoalAsked (goal_of T)
  goal-asked [] k = tt
  goal-asked (given x d ∷ T) k = goal-asked T (rest (given x d) T k)
  goal-asked (find x d ∷ T) k = goal-asked T (rest (find x d) T k)
  goal-asked (given_enum t ∷ T) k = goal-asked T (rest (given_enum t) T k)
  goal-asked (let_enum t ns ∷ T) k = goal-asked T (rest (let_enum t ns) T k)
  goal-asked (let_unnamed t e ∷ T) k = goal-asked T (rest (let_unnamed t e) T k)
  goal-asked (let_ex x e ∷ T) k = goal-asked T (rest (let_ex x e) T k)
  goal-asked (let_dom x d ∷ T) k = goal-asked T (rest (let_dom x d) T k)
  goal-asked (needs e ∷ T) k = goal-asked T (rest (needs e) T k)
  goal-asked (such_that e ∷ T) k = goal-asked T (rest (such_that e) T k)
  goal-asked (minimise e ∷ T) k = head (minimise e) T k
  goal-asked (maximise e ∷ T) k = head (maximise e) T k

  module _ (h : are_mixed_statements S o ≡ true) (f : fault S ≡ None) (G : Goal) (rs : List Ex) where
    abbrev E : Model
    E = model_with S o h G rs

    module _ (p a : Assignment) (q c : Names Table) (I : Instance S o p q) (C : Canonical S o p a c) where
      flat-number : (e : Ex) → Flat (scalar_mark Ps) none_marked e false → (n : ℤ) × (meaning e (env_of S p a) ≡ Some (number n))
      flat-number e w =
          let u = cells-flat Ps (cells S o h) (placed-names S o h) w in
          let v = flat-value (cells S o h) (env_of_tables (q ++ c)) (cells-valued S o h f G rs p a q c I C) u in
          at v.0 v.1 (sym (cells-mean Ps (env_of S p a) (env_of_tables (q ++ c)) (names-valued S o h f G rs p a q c I C) w) ∙ v.2)
        where
          at : (v : Value) → Marked false v → meaning e (env_of S p a) ≡ Some v → (n : ℤ) × (meaning e (env_of S p a) ≡ Some (number n))
          at v (a_number {k = k}) z = (k, z)

      -- An objective is a number, and the model's is the same one.
      number-value : (e y : Ex) → IsNumberOf S o E e y →
          (n : ℤ) × (meaning e (env_of S p a) ≡ Some (number n)) × (model_value (all_decls E) (q ++ c) y ≡ Some (number n))
      number-value e y (of_flat_number t) =
          let w = number-flat Ps e t in
          let n = flat-number e w in (n.0, n.1, written-value S o h f G rs p a q c I C e false w ∙ n.1)
      number-value e y (of_setwise_number t m s) = m p a q c I C

      abbrev GoalThere : Goal → Type 0
      GoalThere no_goal = Unit {0}
      GoalThere (least e) = (n : ℤ) × (meaning e (env_of S p a) ≡ Some (number n))
      GoalThere (greatest e) = (n : ℤ) × (meaning e (env_of S p a) ≡ Some (number n))

      goal-there : (g k : Goal) → IsGoalOf S o E g k → GoalThere g
      goal-there g k of_no_goal = tt
      goal-there g k (of_least {e = e} {f = y} w) = let n = number-value e y w in (n.0, n.1)
      goal-there g k (of_greatest {e = e} {f = y} w) = let n = number-value e y w in (n.0, n.1)

      -- Where there is no objective each one has a value.
      none-asked : (T : List Stm) (k : ℕ) (env : Env) → have_none T ≡ true →
          list_all (λ l. objective_has_value l.stm l.env) (placed_from k T p a env) ≡ true
      none-asked [] k env z = refl
      none-asked (given x d ∷ T) k env z = none-asked T (suc k) (env_after (given x d) p a env) z
      none-asked (find x d ∷ T) k env z = none-asked T (suc k) (env_after (find x d) p a env) z
      none-asked (given_enum t ∷ T) k env z = none-asked T (suc k) (env_after (given_enum t) p a env) z
      none-asked (let_enum t ns ∷ T) k env z = none-asked T (suc k) (env_after (let_enum t ns) p a env) z
      none-asked (let_unnamed t e ∷ T) k env z = none-asked T (suc k) (env_after (let_unnamed t e) p a env) z
      none-asked (let_ex x e ∷ T) k env z = none-asked T (suc k) (env_after (let_ex x e) p a env) z
      none-asked (let_dom x d ∷ T) k env z = none-asked T (suc k) (env_after (let_dom x d) p a env) z
      none-asked (needs e ∷ T) k env z = none-asked T (suc k) (env_after (needs e) p a env) z
      none-asked (such_that e ∷ T) k env z = none-asked T (suc k) (env_after (such_that e) p a env) z
      none-asked (minimise e ∷ T) k env z = cc
      none-asked (maximise e ∷ T) k env z = cc

      -- The objective has a value in its place, that behind all statements.
      objectives : (T : List Stm) (k : ℕ) (env : Env) → OneObjective T → GoalThere (goal_of T) →
          Each (placed_from k T p a env) (λ l. IsSettled S p a l.stm l.env) →
          (list_all (λ l. objective_has_value l.stm l.env) (placed_from k T p a env) ≡ true)
          × (objective_at (placed_from k T p a env) ≡ worth_of (goal_of T) (env_of S p a))
      objectives [] k env z n w = (refl, refl)
      objectives (given x d ∷ T) k env z n w = objectives T (suc k) (env_after (given x d) p a env) z.1 n w.1
      objectives (find x d ∷ T) k env z n w = objectives T (suc k) (env_after (find x d) p a env) z.1 n w.1
      objectives (given_enum t ∷ T) k env z n w = objectives T (suc k) (env_after (given_enum t) p a env) z.1 n w.1
      objectives (let_enum t ns ∷ T) k env z n w = objectives T (suc k) (env_after (let_enum t ns) p a env) z.1 n w.1
      objectives (let_unnamed t e ∷ T) k env z n w = objectives T (suc k) (env_after (let_unnamed t e) p a env) z.1 n w.1
      objectives (let_ex x e ∷ T) k env z n w = objectives T (suc k) (env_after (let_ex x e) p a env) z.1 n w.1
      objectives (let_dom x d ∷ T) k env z n w = objectives T (suc k) (env_after (let_dom x d) p a env) z.1 n w.1
      objectives (needs e ∷ T) k env z n w = objectives T (suc k) (env_after (needs e) p a env) z.1 n w.1
      objectives (such_that e ∷ T) k env z n w = objectives T (suc k) (env_after (such_that e) p a env) z.1 n w.1
      objectives (minimise e ∷ T) k env z n w = (
        ap (λ u. is_some u && list_all (λ l. objective_has_value l.stm l.env) (placed_from (suc k) T p a (env_after (minimise e) p a env)))
            (w.0 ∙ n.1)
            ∙ none-asked T (suc k) (env_after (minimise e) p a env) (z.0 refl),
        ap (λ u. or_else (and_then u int_of) (objective_at (placed_from (suc k) T p a (env_after (minimise e) p a env)))) (w.0 ∙ n.1)
            ∙ sym (ap (λ u. and_then u int_of) n.1),
      )
      objectives (maximise e ∷ T) k env z n w = (
        ap (λ u. is_some u && list_all (λ l. objective_has_value l.stm l.env) (placed_from (suc k) T p a (env_after (maximise e) p a env)))
            (w.0 ∙ n.1)
            ∙ none-asked T (suc k) (env_after (maximise e) p a env) (z.0 refl),
        ap (λ u. or_else (and_then u int_of) (objective_at (placed_from (suc k) T p a (env_after (maximise e) p a env)))) (w.0 ∙ n.1)
            ∙ sym (ap (λ u. and_then u int_of) n.1),
      )

      -- The model's objective is worth the same.
      goal-worth : (g k : Goal) → IsGoalOf S o E g k →
          goal_value (record { givens = E.givens; finds = E.finds; goal = k; rules = E.rules }) q c ≡ worth_of g (env_of S p a)
      goal-worth g k of_no_goal = refl
      goal-worth g k (of_least {e = e} {f = y} w) = let n = number-value e y w in ap (λ z. and_then z int_of) (n.2 ∙ sym n.1)
      goal-worth g k (of_greatest {e = e} {f = y} w) = let n = number-value e y w in ap (λ z. and_then z int_of) (n.2 ∙ sym n.1)

      -- Its rule holds.
      goal-holds : (g : Goal) → list_all (rule_holds E q c) (goal_rules g) ≡ true
      goal-holds no_goal = refl
      goal-holds (least e) = refl
      goal-holds (greatest e) = refl

      module _ (W : IsGoalOf S o E (goal_of (prepared S)) G) where
        all-objectives : (list_all (λ l. objective_has_value l.stm l.env) (placed_from 1 (prepared S) p a empty_env) ≡ true)
            × (objective_at (placed_from 1 (prepared S) p a empty_env) ≡ worth_of (goal_of (prepared S)) (env_of S p a))
        all-objectives = objectives (prepared S) 1 empty_env (one-objective S f) (goal-there (goal_of (prepared S)) G W)
            ((base S o h f G rs).ground.settled.settled p a I.param)

    -- The objective is worth what it is in the specification.
    pub goals-mean : IsGoalOf S o E (goal_of (prepared S)) G → GoalMeans S o E (goal_rules (goal_of (prepared S)))
    goals-mean W = record {
      has_value = λ p a q c I C. goal-holds p a q c I C (goal_of (prepared S)) ∙ sym (all-objectives p a q c I C W).0;
      value = λ p a q c I C v. goal-worth p a q c I C (goal_of (prepared S)) G W ∙ sym (all-objectives p a q c I C W).1;
    }
