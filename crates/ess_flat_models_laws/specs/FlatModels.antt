-- The model of a specification of scalars: each is a single cell with its domain; bounds, constraints and the objective stand with cells in
-- the place of names, constraints and the objective simplified.
use Rattle.std.specs.Prelude.{true, List, [], ◌∷◌, ◌++◌, map}
use Rattle.ess_semantics.specs.Values.{Text}
use Rattle.ess_semantics.specs.Trees.{Ex, truth_ex, no_exs, Dom, int_dom, Stm}
use Rattle.ess_semantics.specs.TableNames.{Named}
use Rattle.ess_semantics.specs.DeclaredTables.{TableDecl}
use Rattle.ess_semantics.specs.Prepared.{prepared}
use Rattle.ess_semantics.specs.Plans.{Options, Plan, size_plan, value_plan, givens_side, finds_side, plans, plans_for}
use Rattle.ess_semantics.specs.ModelTrees.{Model, Goal, no_goal, least, greatest, goal_of}
use Rattle.ess_semantics.specs.Models.{constraints_of, with_cells, all_with_cells}
use Rattle.ess_simplify_laws.specs.Simplifying.{simplified}

-- The rule of a constraint. Refined trees are simplified before keys are made plain, and behind it.
abbrev pub flat_rule : List Plan → Ex → Ex
flat_rule Ps e = simplified (simplified (with_cells Ps e))

-- The name of the first table.
abbrev pub first_table : List Named → Text
first_table [] = []
first_table (n ∷ ns) = n.0

-- A domain with cells in the place of names.
abbrev pub dom_with_cells : List Plan → Dom → Dom
dom_with_cells Ps (int_dom rs es) = int_dom rs (all_with_cells Ps es)
dom_with_cells Ps d = d

-- The declaration of a plan's cell. The class has no sizes of types.
abbrev pub decl_of : List Plan → Plan → TableDecl
decl_of Ps (size_plan t n) = record { name = n; axes = []; cell = int_dom [] no_exs }
decl_of Ps (value_plan f x r d ns) = record { name = first_table ns; axes = []; cell = dom_with_cells Ps d }

-- The objective of the model.
abbrev pub flat_goal : List Plan → Goal → Goal
flat_goal Ps no_goal = no_goal
flat_goal Ps (least e) = least (flat_rule Ps e)
flat_goal Ps (greatest e) = greatest (flat_rule Ps e)

-- The rule that the objective has a value: a total one always has.
abbrev pub goal_rules : Goal → List Ex
goal_rules no_goal = []
goal_rules (least e) = truth_ex true ∷ []
goal_rules (greatest e) = truth_ex true ∷ []

-- The model. Lettings are put in.
abbrev pub flat_model : List Stm → Options → Model
flat_model S o = record {
  givens = map (decl_of (plans S o)) (plans_for givens_side S o);
  finds = map (decl_of (plans S o)) (plans_for finds_side S o);
  goal = flat_goal (plans S o) (goal_of (prepared S));
  rules = goal_rules (goal_of (prepared S)) ++ map (flat_rule (plans S o)) (constraints_of (prepared S));
}
