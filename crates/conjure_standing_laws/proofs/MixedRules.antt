-- Something comes of each rule of the model of a specification of scalars and sets, and of its objective, where its declarations are
-- written: of the structure of each find, and of each constraint, be it flat, a membership, or one over nested sets.
use Rattle.std.proofs.Common.{◌≡◌, refl, sym, ap, ◌∙◌, subst, ℕ, ◌+◌, ◌≤◌, ◌^◌, Bool, true, false, ◌&&◌, ◌||◌, List, [], ◌++◌, ◌⊎◌, inl, inr, map, nat_le, length, Option, Some, None, arith}
use Rattle.std.proofs.lemmas.Bool.{leb-true}
use Rattle.std.specs.List.{list_all, list_any}
use Rattle.ess_semantics.specs.declared.words.Op2.{Op2}
use Rattle.ess_semantics.specs.Values.{Text}
use Rattle.ess_semantics.specs.Order.{same_int}
use Rattle.ess_semantics.specs.Names.{keys}
use Rattle.ess_semantics.specs.Trees.{Repr, Ex, truth_ex, name_ex, Dom, Stm, ex2}
use Rattle.ess_semantics.specs.Kinds.{fits}
use Rattle.ess_semantics.specs.Contexts.{Each}
use Rattle.ess_semantics.specs.Constants.{constants_of}
use Rattle.ess_semantics.specs.TableNames.{table_names, named_tables}
use Rattle.ess_semantics.specs.DeclaredTables.{TableDecl}
use Rattle.ess_semantics.specs.Prepared.{prepared}
use Rattle.ess_semantics.specs.Judgements.{fault}
use Rattle.ess_semantics.specs.Plans.{Options, finds_side, Plan, value_plan, value_names, plans, plans_for}
use Rattle.ess_semantics.specs.ModelTrees.{Goal, no_goal, least, greatest, Model, goal_of}
use Rattle.ess_semantics.specs.Models.{constraints_of, with_cells}
use Rattle.ess_semantics.specs.Solutions.{finds}
use Rattle.ess_semantics.proofs.Tests.{and-left, and-right}
use Rattle.ess_grammar.specs.Models.{Scope}
use Rattle.ess_refine_laws.specs.SpellingEnds.{numbers_of_tree}
use Rattle.conjure_laws.specs.Members.{In}
use Rattle.conjure_laws.specs.Premises.{is_on}
use Rattle.conjure_laws.specs.ModelsOfSets.{table_of}
use Rattle.conjure_laws.proofs.Lists.{at-item, all-items, each-map, in-filter}
use Rattle.conjure_model_laws.specs.Shown.{Shows, shows_of}
use Rattle.conjure_model_laws.specs.Printed.{binders}
use Rattle.conjure_model_laws.specs.IsBuiltFrom.{constraint_tree, condition_tree, objective_tree, taken_names}
use Rattle.ess_flat_laws.specs.Flat.{Flat, none_marked}
use Rattle.ess_flat_models_laws.specs.FlatSpecifications.{scalar_mark, is_flat_truth, is_flat_number}
use Rattle.ess_flat_models_laws.proofs.FlatTexts.{each-mapped}
use Rattle.ess_flat_models_laws.proofs.PreparedStatements.{truth-flat, number-flat}
use Rattle.ess_seen_laws.specs.Seen.{Kind, counted_axes}
use Rattle.ess_mixed_models_laws.specs.ess_setwise_laws.Setwise.{setwise_mark, is_setwise_truth, is_setwise_number}
use Rattle.ess_mixed_models_laws.specs.ess_setwise_laws.Laws.{ShowsSets}
use Rattle.ess_mixed_models_laws.specs.MixedSpecifications.{kinds, places, is_membership, is_nested_plan, are_mixed_statements, types_come_first, have_bounds, spares_reserved, has_names_left, unbound_kind, is_setwise_constraint, is_setwise_objective}
use Rattle.ess_mixed_models_laws.specs.MixedModels.{shown_value, axis_of}
use Rattle.ess_mixed_models_laws.proofs.MixedPlans.{PlanFact, size_fact, atom_fact, set_fact, nested_fact, atom-single, set-single, all-facts, either-test}
use Rattle.ess_mixed_models_laws.proofs.MixedGoals.{GoalAsked, goal-asked}
use Rattle.ess_mixed_models_laws.proofs.ScalarCells.{cells}
use Rattle.ess_mixed_models_laws.proofs.SetValues.{membership-fact}
use Rattle.conjure_modelling.specs.ess_model_trees.Written.{ComesFrom, next_behind}
use Rattle.conjure_modelling.specs.ess_model_written.Answered.{OneLacks}
use Rattle.conjure_modelling.specs.ess_model_written.RulesWritten.{TreeComes, ConstraintComes, NoneComes, no_condition, no_objective, GoalLacks}
use Rattle.conjure_modelling.specs.ess_model_finds.Finds.{asked_of}
use Rattle.conjure_modelling.specs.ess_models.declared.parts.Part.{Part}
use Rattle.conjure_modelling.specs.ess_models.Parts.{scope_of_tables, RuleLacks}
use Rattle.conjure_standing_laws.specs.SetwiseLaws.{HaveSets}
use Rattle.conjure_standing_laws.proofs.BuiltMixed.{member-form, some-members, Asked, all-asked}
use Rattle.conjure_standing_laws.proofs.FilledTables.{sized_cells}
use Rattle.conjure_standing_laws.proofs.FlatComes.{flat-comes}
use Rattle.conjure_standing_laws.proofs.FlatLacks.{none-lacks}
use Rattle.conjure_standing_laws.proofs.FoundNested.{declared_cells}
use Rattle.conjure_standing_laws.proofs.MemberComes.{member-comes, truth-comes}
use Rattle.conjure_standing_laws.proofs.MixedScopes.{declaring, DeclaresAll}
use Rattle.conjure_standing_laws.proofs.MixedTrees.{axis-is, literal-is, over-cells, tree-is, objective-is, condition-is, member-tree, asked-none, no-channels}
use Rattle.conjure_standing_laws.proofs.NestedComes.{nested-comes}
use Rattle.conjure_standing_laws.proofs.NestedFacts.{nested-find}
use Rattle.conjure_standing_laws.proofs.SetwiseBuilt.{have-sets}
use Rattle.conjure_standing_laws.proofs.SetwiseLaws.{setwise-trees-come}
use Rattle.conjure_standing_laws.proofs.SetwiseRules.{mark-is}
use Rattle.conjure_standing_laws.proofs.UnboundSets.{unbound-sets}

enough : (n b : ℕ) → n + b ≤ 2 ^ 62 → n + b ≤ 2 ^ 64
enough n b h = omega (arith, h)

module _ (S : List Stm) (o : Options) (h : are_mixed_statements S o ≡ true) (f : fault S ≡ None)
    (ts : types_come_first [] (prepared S) ≡ true) (bs : have_bounds (plans S o) [] (prepared S) ≡ true) where
  abbrev Ps : List Plan
  Ps = plans S o

  abbrev Fs : List Plan
  Fs = plans_for finds_side S o

  abbrev sh : Shows
  sh = shows_of S o

  abbrev taken : List Text
  taken = taken_names S o

  -- These declarations are written.
  module _ (gs fs : List TableDecl) (d : DeclaresAll S o gs fs) where
    abbrev E : Model
    E = declaring gs fs

    abbrev s : Scope
    s = scope_of_tables gs fs

    -- ---- flat trees and `true`

    flat-tree-comes : (k : ℕ) (r e : Ex) (m : Bool) → r ≡ with_cells Ps e → Flat (scalar_mark Ps) none_marked e m →
        ComesFrom s taken k r None → ⊥
    flat-tree-comes k r e m q w v =
        flat-comes (cells S o h) s taken d.scalars k (with_cells Ps e) m (over-cells S o h f ts bs e m w)
        (subst (λ z. ComesFrom s taken k z None) q v)

    true-comes : (k : ℕ) (r : Ex) → r ≡ truth_ex true → ComesFrom s taken k r None → ⊥
    true-comes k r q v = truth-comes s taken k true (subst (λ z. ComesFrom s taken k z None) q v)

    -- ---- structures

    nothing-asked : (P : Plan) → In P Ps → PlanFact S o P → is_nested_plan (kinds S) P ≡ false →
        TreeComes s taken sh.next (asked_of sh P) None → ⊥
    nothing-asked P i w k c =
        true-comes sh.next (truth_ex true) refl
        (subst (λ t. TreeComes s taken sh.next t None) (asked-none S o h f ts bs P i w k) c)

    structure-comes : (P : Plan) → In P Ps → PlanFact S o P → TreeComes s taken sh.next (asked_of sh P) None → ⊥
    structure-comes P i (size_fact t n q) c = nothing-asked P i (size_fact t n q) (ap (is_nested_plan (kinds S)) q) c
    structure-comes P i (atom_fact a) c =
        nothing-asked P i (atom_fact a) (ap (is_nested_plan (kinds S)) a.is ∙ atom-single S o a.f a.x a.d a.n a.scalar) c
    structure-comes P i (set_fact x A n q m a) c =
        nothing-asked P i (set_fact x A n q m a) (ap (is_nested_plan (kinds S)) q ∙ set-single S o x n m) c
    structure-comes P i (nested_fact x r t names q n k y e) c =
        let ns = named_tables x (table_names r t) names in
        let j : In (value_plan finds_side x r t ns) Ps = subst (λ P. In P Ps) q i in
        nested-comes S o x r t ns f (nested-find S o h x r t names j n k) (declared_cells (gs ++ fs))
        (d.marked x r t ns j (ap (is_nested_plan (kinds S)) (sym q) ∙ y)) taken s d.counted
        (subst (λ P. TreeComes s taken sh.next (asked_of sh P) None) q c)

    structures-come : OneLacks (TreeComes s taken sh.next) (map (asked_of sh) Fs) → ⊥
    structures-come v =
        none-lacks (TreeComes s taken sh.next) (map (asked_of sh) Fs)
        (each-mapped (asked_of sh) (λ t. TreeComes s taken sh.next t None → ⊥) Fs
        (all-items (λ P. TreeComes s taken sh.next (asked_of sh P) None → ⊥) Fs
        (λ P i. let j = (in-filter (is_on finds_side) P Ps i).0 in
        structure-comes P j (at-item (PlanFact S o) Ps P (all-facts S o h) j)))) v

    -- ---- over nested sets

    -- What the sets that an expression doesn't bind are over tables.
    sets-of : (e : Ex) → spares_reserved Ps S ≡ true → ShowsSets sh (scalar_mark Ps) (unbound_kind Ps e) (sized_cells (gs ++ fs))
    sets-of e u = (unbound-sets S o E (sized_cells (gs ++ fs)) e (have-sets S o h f ts bs E d.givens d.finds u)).shown

    names-left : (e : Ex) → has_names_left Ps S e ≡ true → sh.next + binders e ≤ 2 ^ 64
    names-left e u =
        let c1 : Bool = nat_le (sh.next + binders e) (2 ^ 62) in
        let c2 : Bool = nat_le (length taken) (2 ^ 62) in
        enough sh.next (binders e) (leb-true (sh.next + binders e) (2 ^ 62) (and-left c1 c2 u))

    setwise-comes : (e : Ex) → is_setwise_constraint Ps S e ≡ true → ConstraintComes s taken sh e None → ⊥
    setwise-comes e t v =
        let u : Bool = is_setwise_truth (scalar_mark Ps) (unbound_kind Ps e) e in
        let r : Bool = spares_reserved Ps S in
        let l : Bool = has_names_left Ps S e in
        let k : Bool = list_all (λ n. list_any (same_int n) (constants_of S)) (numbers_of_tree e) in
        let b1 = and-right u (r && (l && k)) t in
        setwise-trees-come.of_constraints sh (scalar_mark Ps) (unbound_kind Ps e) (sized_cells (gs ++ fs))
        (sets-of e (and-left r (l && k) b1)) e true
        (mark-is (setwise_mark (scalar_mark Ps) (unbound_kind Ps e) e) (and-left u (r && (l && k)) t))
        (names-left e (and-left l k (and-right r (l && k) b1))) taken s d.sized v

    -- ---- constraints

    member-rule-comes : (v : Ex) (x : Text) → is_membership S o (ex2 true Op2.Member v (name_ex x)) ≡ true →
        ConstraintComes s taken sh (ex2 true Op2.Member v (name_ex x)) None → ⊥
    member-rule-comes v x t w =
        let a = some-members S o h f ts bs x v t in
        let k = membership-fact S o h f no_goal [] v x a.0 t a.1 in
        let n : ℕ = next_behind sh (ex2 true Op2.Member v (name_ex x)) in
        member-comes (table_of Ps x) (axis_of S o a.0) (shown_value (places S) v) (axis-is S o k.0.members) (literal-is (places S) k.1)
        s taken n (d.members v x t) (d.axes a.0 k.0.members)
        (subst (λ c. ComesFrom s taken n c None) (member-tree S o h f ts bs v x a.0 k.0 k.1) w)

    constraint-comes : (e : Ex) → Asked S o h f ts bs e → ConstraintComes s taken sh e None → ⊥
    constraint-comes e t w = go (either-test (is_flat_truth Ps e) (is_membership S o e || is_setwise_constraint Ps S e) t)
      where
        other : (is_membership S o e ≡ true) ⊎ (is_setwise_constraint Ps S e ≡ true) → ⊥
        other (inl t) =
            let m = member-form S o h f ts bs e t in
            member-rule-comes m.0 m.1 (subst (λ e. is_membership S o e ≡ true) m.2 t)
            (subst (λ e. ConstraintComes s taken sh e None) m.2 w)
        other (inr t) = setwise-comes e t w

        go : (is_flat_truth Ps e ≡ true) ⊎ (is_membership S o e || is_setwise_constraint Ps S e ≡ true) → ⊥
        go (inl t) =
            let k = truth-flat Ps e t in
            flat-tree-comes (next_behind sh e) (constraint_tree sh e) e true (tree-is S o h f ts bs e k) k w
        go (inr t) = other (either-test (is_membership S o e) (is_setwise_constraint Ps S e) t)

    -- ---- the objective

    flat-number-comes : (e : Ex) → is_flat_number Ps e ≡ true → NoneComes s taken sh e → ⊥
    flat-number-comes e t (no_condition v) =
        true-comes (next_behind sh e) (condition_tree sh e) (condition-is S o h f ts bs e (number-flat Ps e t)) v
    flat-number-comes e t (no_objective v) =
        let k = number-flat Ps e t in
        flat-tree-comes (next_behind sh e) (objective_tree sh e) e false (objective-is S o h f ts bs e k) k v

    setwise-number-comes : (e : Ex) → is_setwise_objective Ps S e ≡ true → NoneComes s taken sh e → ⊥
    setwise-number-comes e t v =
        let u : Bool = is_setwise_number (scalar_mark Ps) (unbound_kind Ps e) e in
        let r : Bool = spares_reserved Ps S in
        let l : Bool = has_names_left Ps S e in
        let k : Bool = list_all (λ n. list_any (same_int n) (constants_of S)) (numbers_of_tree e) in
        let b1 = and-right u (r && (l && k)) t in
        go (sets-of e (and-left r (l && k) b1)) (and-left u (r && (l && k)) t)
        (names-left e (and-left l k (and-right r (l && k) b1))) v
      where
        go : ShowsSets sh (scalar_mark Ps) (unbound_kind Ps e) (sized_cells (gs ++ fs)) →
            is_setwise_number (scalar_mark Ps) (unbound_kind Ps e) e ≡ true → sh.next + binders e ≤ 2 ^ 64 →
            NoneComes s taken sh e → ⊥
        go w t low (no_condition v) =
            setwise-trees-come.of_conditions sh (scalar_mark Ps) (unbound_kind Ps e) (sized_cells (gs ++ fs)) w e t low taken s d.sized v
        go w t low (no_objective v) =
            setwise-trees-come.of_objectives sh (scalar_mark Ps) (unbound_kind Ps e) (sized_cells (gs ++ fs)) w e t low taken s d.sized v

    number-comes : (e : Ex) → is_flat_number Ps e || is_setwise_objective Ps S e ≡ true → NoneComes s taken sh e → ⊥
    number-comes e t v = go (either-test (is_flat_number Ps e) (is_setwise_objective Ps S e) t)
      where
        go : (is_flat_number Ps e ≡ true) ⊎ (is_setwise_objective Ps S e ≡ true) → ⊥
        go (inl t) = flat-number-comes e t v
        go (inr t) = setwise-number-comes e t v

    goal-comes : (g : Goal) → GoalAsked S o g → GoalLacks s taken sh g → ⊥
    goal-comes no_goal t v = absurd v
    goal-comes (least e) t v = number-comes e t v
    goal-comes (greatest e) t v = number-comes e t v

    -- ---- each part

    -- Something comes of the rules of each part.
    pub no-rule-lacks : (p : Part) → RuleLacks taken sh Ps (value_names finds_side S) (prepared S) s p → ⊥
    no-rule-lacks Part.Givens v = absurd v
    no-rule-lacks Part.Finds v = absurd v
    no-rule-lacks Part.Structures v = structures-come v
    no-rule-lacks Part.Channels v =
        none-lacks (TreeComes s taken sh.next) [] tt (subst (OneLacks (TreeComes s taken sh.next)) (no-channels S o h f ts bs) v)
    no-rule-lacks Part.Objective v = goal-comes (goal_of (prepared S)) (goal-asked S o (prepared S) h) v
    no-rule-lacks Part.Constraints v =
        none-lacks (ConstraintComes s taken sh) (constraints_of (prepared S))
        (each-map (constraints_of (prepared S)) (Asked S o h f ts bs) (λ e. ConstraintComes s taken sh e None → ⊥) constraint-comes
        (all-asked S o h f ts bs (prepared S) h)) v
