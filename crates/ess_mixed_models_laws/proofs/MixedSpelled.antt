-- The rules and the objective of a model of the class spell constants of the specification alone.
use Rattle.std.proofs.Common.{◌≡◌, refl, ap, ◌∙◌, subst, Bool, true, false, ◌&&◌, if◌then◌else◌, List, [], ◌∷◌, map, ℤ, pos, Some, None, option_map}
use Rattle.std.specs.List.{list_any}
use Rattle.ess_semantics.specs.Values.{Text, Value, number, truth}
use Rattle.ess_semantics.specs.Order.{same_text, same_int}
use Rattle.ess_semantics.specs.Names.{Names, look}
use Rattle.ess_semantics.specs.Trees.{Ex, name_ex, cell_ex, no_exs, Dom, bool_dom, Stm, given, given_enum, let_ex, let_dom, let_enum, let_unnamed, needs, find, such_that, minimise, maximise}
use Rattle.ess_semantics.specs.Tables.{Table, one_cell}
use Rattle.ess_semantics.specs.Contexts.{Each}
use Rattle.ess_semantics.specs.DeclaredTables.{TableDecl}
use Rattle.ess_semantics.specs.Operators.{false_where_undefined}
use Rattle.ess_semantics.specs.Meaning.{Env, meaning, cell_in}
use Rattle.ess_semantics.specs.Prepared.{prepared}
use Rattle.ess_semantics.specs.Judgements.{fault}
use Rattle.ess_semantics.specs.Plans.{Options, Plan, value_plan, plans}
use Rattle.ess_semantics.specs.ModelTrees.{Model, Goal, no_goal, least, greatest, goal_of}
use Rattle.ess_semantics.specs.ModelMeaning.{declaration_of, env_of_tables}
use Rattle.ess_semantics.specs.Occurrences.{parts_of}
use Rattle.ess_semantics.specs.Constants.{constants_of, parts_of_decl, parts_of_goal}
use Rattle.ess_semantics.specs.Models.{constraint_of, constraints_of}
use Rattle.ess_semantics.proofs.Tests.{and-left, and-both}
use Rattle.conjure_laws.specs.SideBySide.{Along}
use Rattle.conjure_laws.specs.ModelPremises.{spelled}
use Rattle.conjure_laws.specs.SetsOfAtoms.{TypeKind, fixed, sized}
use Rattle.conjure_laws.specs.ModelsOfSets.{table_of, axis_for}
use Rattle.conjure_laws.proofs.Lists.{each-append}
use Rattle.conjure_model_laws.specs.Printed.{printed_name}
use Rattle.conjure_model_laws.specs.IsBuiltFrom.{taken_names}
use Rattle.ess_flat_models_laws.specs.ess_flat_laws.Flat.{Flat, none_marked}
use Rattle.ess_flat_models_laws.specs.FlatSpecifications.{scalar_mark}
use Rattle.ess_flat_models_laws.specs.FlatModels.{flat_rule, goal_rules}
use Rattle.ess_flat_models_laws.proofs.PreparedStatements.{truth-flat, number-flat}
use Rattle.ess_flat_models_laws.proofs.ScalarDomains.{Atom}
use Rattle.ess_flat_models_laws.proofs.SimpleTrees.{is_simple, NumbersAre}
use Rattle.ess_flat_models_laws.proofs.FlatValues.{Marked, a_truth as truth_marked, a_number as number_marked, AllNumbers}
use Rattle.ess_flat_models_laws.proofs.FlatSimplified.{simpler}
use Rattle.ess_flat_models_laws.proofs.FlatCells.{numbers-stay, cells-flat}
use Rattle.ess_flat_models_laws.proofs.FlatTexts.{IsConst, numbers-spelled, statements-spelled, flat-simple}
use Rattle.ess_member_shows_laws.specs.ess_member_rules_laws.WrittenForms.{Written, by_number, by_condition, by_conjunction}
use Rattle.ess_mixed_models_laws.specs.MixedSpecifications.{kinds, places, are_mixed_statements}
use Rattle.ess_mixed_models_laws.specs.MixedModels.{axis_of, shown_value, IsRuleOf, of_flat, of_membership, of_setwise, IsNumberOf, of_flat_number, of_setwise_number, IsGoalOf, of_no_goal, of_least, of_greatest}
use Rattle.ess_mixed_models_laws.proofs.MemberValues.{literal_code}
use Rattle.ess_mixed_models_laws.proofs.NamedKinds.{MemberDom, of_numbers, of_truths, of_type}
use Rattle.ess_mixed_models_laws.proofs.MixedPlans.{atom-single}
use Rattle.ess_mixed_models_laws.proofs.MixedCells.{decls, declared}
use Rattle.ess_mixed_models_laws.proofs.ScalarCells.{cells, placed-names, planned}
use Rattle.ess_mixed_models_laws.proofs.MixedConstants.{value-const, axis-spelled}
use Rattle.ess_mixed_models_laws.proofs.SetFinds.{MemberValue, a_number, a_truth, a_value}
use Rattle.ess_mixed_models_laws.proofs.SetValues.{membership-fact}

-- ---- tables that hold 0

-- Each declared table holds 0 alone.
pub zero_tables : List TableDecl → Names Table
zero_tables ds = map (λ d. (d.name, one_cell (pos 0))) ds

zero-look : (ds : List TableDecl) (n : Text) → look (zero_tables ds) n ≡ option_map (λ d. one_cell (pos 0)) (declaration_of ds n)
unfolding zero_tables
zero-look [] n = refl
zero-look (d ∷ ds) n = go (same_text d.name n) (zero-look ds n)
  where
    go : (c : Bool) → look (map (λ d. (d.name, one_cell (pos 0))) ds) n ≡ option_map (λ d. one_cell (pos 0)) (declaration_of ds n) →
        (if c then Some (one_cell (pos 0)) else look (map (λ d. (d.name, one_cell (pos 0))) ds) n)
        ≡ option_map (λ d. one_cell (pos 0)) (if c then Some d else declaration_of ds n)
    go true e = refl
    go false e = e

module _ (S : List Stm) (o : Options) where
  abbrev Ps : List Plan
  Ps = plans S o

  abbrev isc : ℤ → Bool
  isc n = list_any (same_int n) (constants_of S)

  -- ---- memberships

  behind : (k : ℤ) (b : Bool) → isc k && true ≡ true → b ≡ true → isc k && b ≡ true
  behind k b s d = and-both (isc k) b (and-left (isc k) true s) d

  by-type : (n t a y : Text) (k : TypeKind) (r : Ex) → spelled S (parts_of_decl
      (record { name = n; axes = axis_for Ps t (Some k) ∷ []; cell = bool_dom })) ≡ true →
      isc (literal_code (shown_value (places S) (name_ex a))) && true ≡ true →
      Written n (axis_for Ps t (Some k)) (shown_value (places S) (name_ex a)) y r → spelled S (parts_of r) ≡ true
  by-type n t a y (fixed m) r d s by_number = s
  by-type n t a y (fixed m) r d s by_condition = behind (literal_code (shown_value (places S) (name_ex a))) _ s d
  by-type n t a y (fixed m) r d s by_conjunction = behind (literal_code (shown_value (places S) (name_ex a))) _ s d
  by-type n t a y sized r d s by_number = s
  by-type n t a y sized r d s by_condition = behind (literal_code (shown_value (places S) (name_ex a))) _ s d
  by-type n t a y sized r d s by_conjunction = behind (literal_code (shown_value (places S) (name_ex a))) _ s d

  -- What is written spells the numbers of the domain and of the value.
  member-spelled : (n y : Text) {e : Ex} {A : Dom} (m : MemberDom (kinds S) A) → MemberValue (places S) e A → (r : Ex) →
      spelled S (parts_of_decl (record { name = n; axes = axis_of S o A ∷ []; cell = bool_dom })) ≡ true →
      isc (literal_code (shown_value (places S) e)) && true ≡ true → Written n (axis_of S o A) (shown_value (places S) e) y r →
      spelled S (parts_of r) ≡ true
  member-spelled n y of_numbers (a_number {k = k}) r d s by_number = s
  member-spelled n y of_numbers (a_number {k = k}) r d s by_condition = behind k _ s d
  member-spelled n y of_numbers (a_number {k = k}) r d s by_conjunction = behind k _ s d
  member-spelled n y of_truths (a_truth {b = true}) r d s by_number = s
  member-spelled n y of_truths (a_truth {b = false}) r d s by_number = s
  member-spelled n y of_truths a_truth r d s by_condition = refl
  member-spelled n y of_truths a_truth r d s by_conjunction = refl
  member-spelled n y (of_type {t = t} {k = k} q) (a_value {n = a} e) r d s w =
      by-type n t a y k r
      (subst (λ z. spelled S (parts_of_decl (record { name = n; axes = axis_for Ps t z ∷ []; cell = bool_dom })) ≡ true) q d) s
      (subst (λ z. Written n (axis_for Ps t z) (shown_value (places S) (name_ex a)) y r) q w)

  -- ---- numbers of constraints and of the objective

  -- The numbers of a simple tree are constants.
  abbrev pub SpellsConstants : Ex → Type 0
  SpellsConstants e = is_simple e ≡ true → AllNumbers (IsConst S) e

  stm-constants : (s : Stm) → NumbersAre (IsConst S) s → Each (constraint_of s) SpellsConstants
  stm-constants (such_that e) n = (n, tt)
  stm-constants (given x d) n = tt
  stm-constants (find x d) n = tt
  stm-constants (given_enum t) n = tt
  stm-constants (let_enum t ns) n = tt
  stm-constants (let_unnamed t e) n = tt
  stm-constants (let_ex x e) n = tt
  stm-constants (let_dom x d) n = tt
  stm-constants (needs e) n = tt
  stm-constants (minimise e) n = tt
  stm-constants (maximise e) n = tt

  constraints-constants : (T : List Stm) → Each T (NumbersAre (IsConst S)) → Each (constraints_of T) SpellsConstants
  constraints-constants [] n = tt
  constraints-constants (s ∷ T) n =
      each-append SpellsConstants (constraint_of s) (constraints_of T) (stm-constants s n.0) (constraints-constants T n.1)

  abbrev GoalConstants : Goal → Type 0
  GoalConstants no_goal = Unit {0}
  GoalConstants (least e) = SpellsConstants e
  GoalConstants (greatest e) = SpellsConstants e

  goal-constants : (T : List Stm) → Each T (NumbersAre (IsConst S)) → GoalConstants (goal_of T)
  goal-constants [] n = tt
  goal-constants (minimise e ∷ T) n = n.0
  goal-constants (maximise e ∷ T) n = n.0
  goal-constants (given x d ∷ T) n = goal-constants T n.1
  goal-constants (find x d ∷ T) n = goal-constants T n.1
  goal-constants (given_enum t ∷ T) n = goal-constants T n.1
  goal-constants (let_enum t ns ∷ T) n = goal-constants T n.1
  goal-constants (let_unnamed t e ∷ T) n = goal-constants T n.1
  goal-constants (let_ex x e ∷ T) n = goal-constants T n.1
  goal-constants (let_dom x d ∷ T) n = goal-constants T n.1
  goal-constants (needs e ∷ T) n = goal-constants T n.1
  goal-constants (such_that e ∷ T) n = goal-constants T n.1

  module _ (h : are_mixed_statements S o ≡ true) (f : fault S ≡ None) where
    abbrev env0 : Env
    env0 = env_of_tables (zero_tables (decls S o h))

    -- Each declared cell holds 0, or false.
    pub zero-valued : (n : Text) (b : Bool) → cells S o h n ≡ Some b →
        (v : Value) × Marked b v × (meaning (cell_ex b n no_exs) env0 ≡ Some v)
    zero-valued n b e =
        let r = planned S o h n b e in
        at b (zero-look (decls S o h) n
        ∙ ap (option_map (λ d. one_cell (pos 0))) (declared S o h (value_plan r.f r.x Atom r.d ((n, 0) ∷ [])) r.planned
        (atom-single S o r.f r.x r.d n r.scalar)))
      where
        at : (b : Bool) → look (zero_tables (decls S o h)) n ≡ Some (one_cell (pos 0)) →
            (v : Value) × Marked b v × (meaning (cell_ex b n no_exs) env0 ≡ Some v)
        at true q = (truth false, truth_marked, ap (λ z. false_where_undefined true (cell_in true z (Some []))) q)
        at false q = (number (pos 0), number_marked, ap (λ z. false_where_undefined false (cell_in false z (Some []))) q)

    flat-spelled : (e : Ex) (m : Bool) → Flat (scalar_mark Ps) none_marked e m → SpellsConstants e →
        spelled S (parts_of (flat_rule Ps e)) ≡ true
    flat-spelled e m w n =
        let u = cells-flat Ps (cells S o h) (placed-names S o h) w in
        let s = simpler (cells S o h) env0 zero-valued u in
        let r = simpler (cells S o h) env0 zero-valued s.flat in
        numbers-spelled S none_marked (cells S o h) r.flat
        (r.numbers (IsConst S) (s.numbers (IsConst S) (numbers-stay Ps (IsConst S) w (n (flat-simple (scalar_mark Ps) w)))))

    rule-spelled : (M : Model) (e r : Ex) → SpellsConstants e → IsRuleOf S o M e r → spelled S (parts_of r) ≡ true
    rule-spelled M e r n (of_flat t) = flat-spelled e true (truth-flat Ps e t) n
    rule-spelled M e r n (of_setwise k t m s) = s
    rule-spelled M e r n (of_membership {e = v} {x = x} t R) =
        let k = membership-fact S o h f no_goal [] v x R.members t R.found in
        member-spelled (table_of Ps x) (printed_name (taken_names S o) 0) k.0.members k.1 r
        (axis-spelled S o (table_of Ps x) x k.0.members k.0.declared)
        (and-both (isc (literal_code (shown_value (places S) v))) true (value-const S v x R.members k.1 n) refl) R.written

    rules-along : (M : Model) (es rs : List Ex) → Each es SpellsConstants → Along es rs (IsRuleOf S o M) →
        Each rs (λ r. spelled S (parts_of r) ≡ true)
    rules-along M [] [] n w = tt
    rules-along M (e ∷ es) (r ∷ rs) n w = (rule-spelled M e r n.0 w.0, rules-along M es rs n.1 w.1)
    rules-along M [] (r ∷ rs) n w = absurd w
    rules-along M (e ∷ es) [] n w = absurd w

    -- The rules of constraints spell constants.
    pub rules-spelled : (M : Model) (rs : List Ex) → Along (constraints_of (prepared S)) rs (IsRuleOf S o M) →
        Each rs (λ r. spelled S (parts_of r) ≡ true)
    rules-spelled M rs w = rules-along M (constraints_of (prepared S)) rs (constraints-constants (prepared S) (statements-spelled S)) w

    number-spelled : (M : Model) (e y : Ex) → SpellsConstants e → IsNumberOf S o M e y → spelled S (parts_of y) ≡ true
    number-spelled M e y n (of_flat_number t) = flat-spelled e false (number-flat Ps e t) n
    number-spelled M e y n (of_setwise_number t m s) = s

    goal-at : (M : Model) (g k : Goal) → GoalConstants g → IsGoalOf S o M g k → spelled S (parts_of_goal k) ≡ true
    goal-at M g k n of_no_goal = refl
    goal-at M g k n (of_least {e = e} {f = y} w) = number-spelled M e y n w
    goal-at M g k n (of_greatest {e = e} {f = y} w) = number-spelled M e y n w

    -- So does the objective.
    pub goal-spelled : (M : Model) (k : Goal) → IsGoalOf S o M (goal_of (prepared S)) k → spelled S (parts_of_goal k) ≡ true
    goal-spelled M k w = goal-at M (goal_of (prepared S)) k (goal-constants (prepared S) (statements-spelled S)) w

-- `true` spells no number.
pub goal-rules-spelled : (S : List Stm) (g : Goal) → Each (goal_rules g) (λ r. spelled S (parts_of r) ≡ true)
goal-rules-spelled S no_goal = tt
goal-rules-spelled S (least e) = (refl, tt)
goal-rules-spelled S (greatest e) = (refl, tt)
