-- Models of specifications of scalars and sets: a scalar is a cell and a set a table of truth values over its members, or what its
-- representation keeps it as, with a rule that these tables are canonical; and each other rule is that of a flat constraint, or any tree
-- that is written for a membership, or one that says what a constraint over scalars, ranges and nested sets says. So is the objective that
-- of a flat one, or one that is worth what one over scalars, ranges and nested sets is.
use Rattle.std.specs.Prelude.{◌≡◌, ℕ, true, false, if◌then◌else◌, List, [], ◌∷◌, ◌++◌, map, pos, Some, option_map}
use Rattle.ess_semantics.specs.declared.words.ReprKind.{ReprKind}
use Rattle.ess_semantics.specs.declared.words.Op2.{Op2}
use Rattle.ess_semantics.specs.Lists.{or_default, append_all}
use Rattle.ess_semantics.specs.Values.{Text}
use Rattle.ess_semantics.specs.Names.{Names, look, keys}
use Rattle.ess_semantics.specs.Trees.{repr, low_end, Ex, number_ex, name_ex, no_exs, more_exs, Dom, bool_dom, int_dom, set_dom, Stm, ex2}
use Rattle.ess_semantics.specs.DeclaredTables.{TableDecl}
use Rattle.ess_semantics.specs.Contexts.{Each}
use Rattle.ess_semantics.specs.Occurrences.{parts_of}
use Rattle.ess_semantics.specs.Prepared.{prepared}
use Rattle.ess_semantics.specs.Plans.{Options, Plan, size_plan, value_plan, givens_side, finds_side, kept_names, plans, plans_for}
use Rattle.ess_semantics.specs.ModelTrees.{Goal, no_goal, least, greatest, Model, goal_of}
use Rattle.ess_semantics.specs.Models.{constraints_of}
use Rattle.ess_repr_declare_laws.specs.DeclaredTrees.{axis_dom, trees_below}
use Rattle.conjure_laws.specs.SideBySide.{Along}
use Rattle.conjure_laws.specs.ModelPremises.{StructureMeans, RuleMeans, spelled}
use Rattle.conjure_laws.specs.SetsOfAtoms.{TypeKind}
use Rattle.conjure_laws.specs.ModelsOfSets.{first_name, table_of, axis_of_set}
use Rattle.conjure_model_laws.specs.Printed.{printed_name}
use Rattle.conjure_model_laws.specs.IsBuiltFrom.{taken_names, with_whole_names}
use Rattle.ess_flat_models_laws.specs.FlatSpecifications.{is_flat_truth, is_flat_number}
use Rattle.ess_flat_models_laws.specs.FlatModels.{decl_of, flat_rule, goal_rules}
use Rattle.ess_setwise_laws.specs.Objectives.{NumberMeans}
use Rattle.ess_member_shows_laws.specs.ess_member_rules_laws.WrittenForms.{Written}
use Rattle.ess_mixed_models_laws.specs.MixedSpecifications.{kinds, places, members_of, is_membership, is_nested_plan, is_setwise_constraint, is_setwise_objective}

-- What is declared of a plan: at least 1 for the size of a given type, a table of truth values over the members for a set, where an axis of
-- truth values is one of 0 and 1, and a cell for a scalar.
abbrev pub mixed_decl : Names TypeKind → List Plan → Plan → TableDecl
mixed_decl ks Ps (size_plan t n) = record { name = n; axes = []; cell = int_dom (low_end ∷ []) (more_exs (number_ex (pos 1)) no_exs) }
mixed_decl ks Ps (value_plan f x (repr ReprKind.Occurrence rs) d ns) =
    record { name = first_name ns; axes = axis_dom (axis_of_set ks Ps d) ∷ []; cell = bool_dom }
mixed_decl ks Ps P = decl_of Ps P

-- The tables that are declared of a plan of nested sets: those of its representation.
abbrev pub nested_decls : Plan → List TableDecl
nested_decls (size_plan t n) = []
nested_decls (value_plan f x r d ns) = with_whole_names (keys ns) (trees_below false r d)

-- What is declared of a plan.
abbrev pub mixed_decls : Names TypeKind → List Plan → Plan → List TableDecl
mixed_decls ks Ps P = if is_nested_plan ks P then nested_decls P else (mixed_decl ks Ps P ∷ [])

-- A value over tables: one of an enumerated type is its position.
abbrev pub shown_value : Names (Text × ℕ) → Ex → Ex
shown_value vs (name_ex n) = number_ex (pos (or_default (option_map (λ v. v.1) (look vs n)) 0))
shown_value vs e = e

module _ (S : List Stm) (o : Options) where
  -- The domain of a set's members over tables.
  abbrev pub axis_of : Dom → Dom
  axis_of A = axis_of_set (kinds S) (plans S o) (set_dom [] no_exs A)

  -- The rule is written for the membership of the value e in the find x.
  pub record IsMembershipRule (e : Ex) (x : Text) (r : Ex) : Type 0 where
    pub members : Dom
    pub found : members_of (look (kept_names S) x) ≡ Some members
    pub written : Written (table_of (plans S o) x) (axis_of members) (shown_value (places S) e) (printed_name (taken_names S o) 0) r

  -- The rule is that of a constraint in the model E.
  pub data IsRuleOf (E : Model) : Ex → Ex → Type 0 where
    of_flat : {e : Ex} → is_flat_truth (plans S o) e ≡ true → IsRuleOf E e (flat_rule (plans S o) e)
    of_membership : {e : Ex} {x : Text} {r : Ex} → is_membership S o (ex2 true Op2.Member e (name_ex x)) ≡ true → IsMembershipRule e x r →
        IsRuleOf E (ex2 true Op2.Member e (name_ex x)) r
    of_setwise : {e r : Ex} → is_flat_truth (plans S o) e ≡ false → is_setwise_constraint (plans S o) S e ≡ true →
        RuleMeans S o E e r → spelled S (parts_of r) ≡ true → IsRuleOf E e r

  -- The rules of a plan: of one of nested sets they say that its tables are canonical, with numbers of the specification alone; of others
  -- there are none.
  pub record AreStructure (E : Model) (P : Plan) (rs : List Ex) : Type 0 where
    pub none : is_nested_plan (kinds S) P ≡ false → rs ≡ []
    pub means : is_nested_plan (kinds S) P ≡ true → StructureMeans S o E P rs
    pub spelled : Each rs (λ r. spelled S (parts_of r) ≡ true)

  -- The number is that of an objective in the model E.
  pub data IsNumberOf (E : Model) : Ex → Ex → Type 0 where
    of_flat_number : {e : Ex} → is_flat_number (plans S o) e ≡ true → IsNumberOf E e (flat_rule (plans S o) e)
    of_setwise_number : {e f : Ex} → is_setwise_objective (plans S o) S e ≡ true → NumberMeans S o E e f → spelled S (parts_of f) ≡ true →
        IsNumberOf E e f

  -- The second objective is that of the model E where the first one is asked: it has the same direction.
  pub data IsGoalOf (E : Model) : Goal → Goal → Type 0 where
    of_no_goal : IsGoalOf E no_goal no_goal
    of_least : {e f : Ex} → IsNumberOf E e f → IsGoalOf E (least e) (least f)
    of_greatest : {e f : Ex} → IsNumberOf E e f → IsGoalOf E (greatest e) (greatest f)

  -- A model of the specification.
  pub record IsMixedModel (E : Model) : Type 0 where
    pub structures : List (List Ex)
    pub constraints : List Ex
    pub givens : E.givens ≡ map (mixed_decl (kinds S) (plans S o)) (plans_for givens_side S o)
    pub finds : E.finds ≡ append_all (map (mixed_decls (kinds S) (plans S o)) (plans_for finds_side S o))
    pub goal : IsGoalOf E (goal_of (prepared S)) E.goal
    pub rules : E.rules ≡ append_all structures ++ goal_rules (goal_of (prepared S)) ++ constraints
    pub structured : Along (plans_for finds_side S o) structures (AreStructure E)
    pub written : Along (constraints_of (prepared S)) constraints (IsRuleOf E)
