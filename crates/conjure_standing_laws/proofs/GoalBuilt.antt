-- What comes of the objective of a specification of the class: a flat one is written simplified, one that speaks of nested sets is worth
-- what it is; and the rule that it has a value is `true`.
use Rattle.std.proofs.Common.{◌≡◌, sym, ap, subst, ℕ, ◌+◌, ◌^◌, Bool, true, false, ◌&&◌, ◌||◌, List, [], ◌∷◌, ◌⊎◌, inl, inr, length, nat_le, Some, None, map}
use Rattle.std.proofs.lemmas.Bool.{leb-true}
use Rattle.std.specs.List.{list_all, list_any}
use Rattle.ess_semantics.specs.Lists.{append_all}
use Rattle.ess_semantics.specs.Values.{Text}
use Rattle.ess_semantics.specs.Order.{same_int}
use Rattle.ess_semantics.specs.Trees.{Ex, truth_ex, Stm}
use Rattle.ess_semantics.specs.Constants.{constants_of}
use Rattle.ess_semantics.specs.Prepared.{prepared}
use Rattle.ess_semantics.specs.Judgements.{fault}
use Rattle.ess_semantics.specs.Plans.{Options, givens_side, finds_side, Plan, plans, plans_for}
use Rattle.ess_semantics.specs.ModelTrees.{Goal, no_goal, least, greatest, Model, all_decls}
use Rattle.ess_semantics.specs.Models.{with_cells}
use Rattle.ess_semantics.proofs.Tests.{and-left, and-right}
use Rattle.ess_grammar.specs.Models.{Scope}
use Rattle.ess_refine_laws.specs.SpellingEnds.{numbers_of_tree}
use Rattle.conjure_model_laws.specs.Shown.{Shows, shows_of}
use Rattle.conjure_model_laws.specs.Printed.{binders}
use Rattle.conjure_model_laws.specs.IsBuiltFrom.{condition_tree, objective_tree, taken_names}
use Rattle.ess_flat_laws.specs.Flat.{Flat, none_marked, truth as truth_is}
use Rattle.ess_flat_models_laws.specs.FlatSpecifications.{scalar_mark, is_flat_number}
use Rattle.ess_flat_models_laws.specs.FlatModels.{flat_rule, goal_rules}
use Rattle.ess_flat_models_laws.proofs.PreparedStatements.{number-flat}
use Rattle.ess_mixed_models_laws.specs.ess_setwise_laws.Setwise.{is_setwise_number}
use Rattle.conjure_modelling.specs.ess_model_trees.Written.{ComesFrom, next_behind}
use Rattle.conjure_modelling.specs.ess_model_written.RulesWritten.{BothCome, GoalComes}
use Rattle.conjure_standing_laws.proofs.FlatChains.{comes-flat}
use Rattle.ess_mixed_models_laws.specs.MixedSpecifications.{kinds, are_mixed_statements, types_come_first, have_bounds, spares_reserved, has_names_left, unbound_kind, is_setwise_objective}
use Rattle.ess_mixed_models_laws.specs.MixedModels.{mixed_decl, mixed_decls, IsNumberOf, of_flat_number, of_setwise_number, IsGoalOf, of_no_goal, of_least, of_greatest}
use Rattle.ess_mixed_models_laws.proofs.MixedPlans.{either-test}
use Rattle.ess_mixed_models_laws.proofs.ScalarCells.{cells}
use Rattle.ess_mixed_models_laws.proofs.MixedGoals.{GoalAsked}
use Rattle.conjure_standing_laws.specs.SetwiseLaws.{SetwiseObjectivesStand}
use Rattle.conjure_standing_laws.proofs.MixedTrees.{simple, over-cells, objective-is, condition-is}
use Rattle.conjure_standing_laws.proofs.FilledTables.{sized_cells}
use Rattle.conjure_standing_laws.proofs.UnboundSets.{unbound-sets}
use Rattle.conjure_standing_laws.proofs.SetwiseBuilt.{have-sets}

module _ (S : List Stm) (o : Options) (h : are_mixed_statements S o ≡ true) (f : fault S ≡ None)
    (ts : types_come_first [] (prepared S) ≡ true) (bs : have_bounds (plans S o) [] (prepared S) ≡ true) where
  abbrev Ps : List Plan
  Ps = plans S o

  abbrev sh : Shows
  sh = shows_of S o

  abbrev taken : List Text
  taken = taken_names S o

  -- What comes of a flat tree is its rule.
  pub written-is : (s : Scope) (k : ℕ) (t e r : Ex) (m : Bool) → t ≡ with_cells Ps e → Flat (scalar_mark Ps) none_marked e m →
      ComesFrom s taken k t (Some r) → r ≡ flat_rule Ps e
  written-is s k t e r m q w v =
      comes-flat (cells S o h) (simple S o h f ts bs) s taken k (with_cells Ps e) r m (over-cells S o h f ts bs e m w)
      (subst (λ z. ComesFrom s taken k z (Some r)) q v)

  true-is : (s : Scope) (k : ℕ) (t r : Ex) → t ≡ truth_ex true → ComesFrom s taken k t (Some r) → r ≡ truth_ex true
  true-is s k t r q v =
      comes-flat (cells S o h) (simple S o h f ts bs) s taken k (truth_ex true) r true truth_is
      (subst (λ z. ComesFrom s taken k z (Some r)) q v)

  module _ (stand : SetwiseObjectivesStand) (E : Model) (g : E.givens ≡ map (mixed_decl (kinds S) Ps) (plans_for givens_side S o))
      (l : E.finds ≡ append_all (map (mixed_decls (kinds S) Ps) (plans_for finds_side S o))) where
    -- Of an objective comes its number, with the rule `true`.
    abbrev Both : Ex → Ex → Ex → Type 0
    Both e y r = IsNumberOf S o E e y × (r ∷ [] ≡ truth_ex true ∷ [])

    flat-number : (s : Scope) (e y r : Ex) → is_flat_number Ps e ≡ true → BothCome s taken sh e y r → Both e y r
    flat-number s e y r t w =
        let k = number-flat Ps e t in (
          subst (IsNumberOf S o E e)
              (sym (written-is s (next_behind sh e) (objective_tree sh e) e y false (objective-is S o h f ts bs e k) k w.objective))
              (of_flat_number t),
          ap (λ z. z ∷ []) (true-is s (next_behind sh e) (condition_tree sh e) r (condition-is S o h f ts bs e k) w.condition),
        )

    setwise-number : (s : Scope) (e y r : Ex) → is_setwise_objective Ps S e ≡ true → BothCome s taken sh e y r → Both e y r
    setwise-number s e y r t w =
        let u : Bool = is_setwise_number (scalar_mark Ps) (unbound_kind Ps e) e in
        let v : Bool = spares_reserved Ps S in
        let n : Bool = has_names_left Ps S e in
        let k : Bool = list_all (λ n. list_any (same_int n) (constants_of S)) (numbers_of_tree e) in
        let b1 = and-right u (v && (n && k)) t in
        let b2 = and-right v (n && k) b1 in
        let b3 = and-left n k b2 in
        let c1 : Bool = nat_le (sh.next + binders e) (2 ^ 62) in
        let c2 : Bool = nat_le (length taken) (2 ^ 62) in
        let w1 = have-sets S o h f ts bs E g l (and-left v (n && k) b1) in
        let z = stand S o E (unbound_kind Ps e) (sized_cells (all_decls E)) (unbound-sets S o E (sized_cells (all_decls E)) e w1) e
        (and-left u (v && (n && k)) t) (leb-true (sh.next + binders e) (2 ^ 62) (and-left c1 c2 b3)) taken
        (leb-true (length taken) (2 ^ 62) (and-right c1 c2 b3)) s y w.objective in (
          of_setwise_number t z.0 (z.1 (and-right n k b2)),
          ap (λ x. x ∷ []) (true-is s (next_behind sh e) (condition_tree sh e) r z.2 w.condition),
        )

    number-is : (s : Scope) (e y r : Ex) → is_flat_number Ps e || is_setwise_objective Ps S e ≡ true → BothCome s taken sh e y r →
        Both e y r
    number-is s e y r t w = go (either-test (is_flat_number Ps e) (is_setwise_objective Ps S e) t)
      where
        go : (is_flat_number Ps e ≡ true) ⊎ (is_setwise_objective Ps S e ≡ true) → Both e y r
        go (inl t) = flat-number s e y r t w
        go (inr t) = setwise-number s e y r t w

    -- What comes of the objective.
    pub goal-is : (s : Scope) (a : Goal) → GoalAsked S o a → (k : Goal) (rs : List Ex) → GoalComes s taken sh a k rs →
        IsGoalOf S o E a k × (rs ≡ goal_rules a)
    goal-is s no_goal i no_goal rs w = (of_no_goal, w)
    goal-is s no_goal i (least e) rs w = absurd w
    goal-is s no_goal i (greatest e) rs w = absurd w
    goal-is s (least e) i (least y) (r ∷ []) w = let z = number-is s e y r i w in (of_least z.0, z.1)
    goal-is s (least e) i (least y) [] w = absurd w
    goal-is s (least e) i (least y) (r ∷ q ∷ rs) w = absurd w
    goal-is s (least e) i no_goal rs w = absurd w
    goal-is s (least e) i (greatest y) rs w = absurd w
    goal-is s (greatest e) i (greatest y) (r ∷ []) w = let z = number-is s e y r i w in (of_greatest z.0, z.1)
    goal-is s (greatest e) i (greatest y) [] w = absurd w
    goal-is s (greatest e) i (greatest y) (r ∷ q ∷ rs) w = absurd w
    goal-is s (greatest e) i no_goal rs w = absurd w
    goal-is s (greatest e) i (least y) rs w = absurd w
