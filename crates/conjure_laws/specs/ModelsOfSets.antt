-- The model of a specification of sets: each find is a table of truth values over the members, a given type's size is a number,
-- and a constraint is a cell.
use Rattle.std.specs.Prelude.{ℕ, true, false, if◌then◌else◌, List, [], ◌∷◌, map, ℤ, pos, Option, Some, None, option_map}
use Rattle.ess_semantics.specs.Lists.{or_default}
use Rattle.ess_semantics.specs.Values.{Text}
use Rattle.ess_semantics.specs.Order.{same_text}
use Rattle.ess_semantics.specs.Names.{Names, look}
use Rattle.ess_semantics.specs.Trees.{low_end, both_ends, Ex, number_ex, cell_ex, no_exs, more_exs, Dom, bool_dom, int_dom, name_dom, set_dom}
use Rattle.ess_semantics.specs.TableNames.{Named}
use Rattle.ess_semantics.specs.DeclaredTables.{TableDecl}
use Rattle.ess_semantics.specs.Plans.{Options, Plan, size_plan, value_plan, plans, plans_for, finds_side, givens_side}
use Rattle.ess_semantics.specs.ModelTrees.{Model, no_goal}
use Rattle.conjure_laws.specs.SetsOfAtoms.{Lit, num, truth_lit, value_name, Line, holds_lit, spec, range_dom, TypeKind, fixed, sized, none_declared, after_all}

-- No representation is named: each set is kept by which members occur.
abbrev pub no_options : Options
no_options = []

-- The first of the names.
abbrev pub first_name : List Named → Text
first_name [] = []
first_name (n ∷ ns) = n.0

-- The name of the table with the size of a given type.
abbrev pub size_name : List Plan → Text → Text
size_name [] t = []
size_name (size_plan u n ∷ Ps) t = if same_text u t then n else size_name Ps t
size_name (value_plan f x r d ns ∷ Ps) t = size_name Ps t

-- The name of the table of a find.
abbrev pub table_of : List Plan → Text → Text
table_of [] x = []
table_of (size_plan u n ∷ Ps) x = table_of Ps x
table_of (value_plan f y r d ns ∷ Ps) x = if same_text y x then first_name ns else table_of Ps x

-- From 1 to the number of values of a type.
abbrev pub axis_for : List Plan → Text → Option TypeKind → Dom
axis_for Ps t None = bool_dom
axis_for Ps t (Some (fixed n)) = range_dom (pos 1) (pos n)
axis_for Ps t (Some sized) = int_dom (both_ends ∷ []) (more_exs (number_ex (pos 1))
    (more_exs (cell_ex false (size_name Ps t) no_exs) no_exs))

-- The domain of a set's members, with positions.
abbrev pub axis_of_set : Names TypeKind → List Plan → Dom → Dom
axis_of_set ks Ps (set_dom ms es (name_dom t)) = axis_for Ps t (look ks t)
axis_of_set ks Ps (set_dom ms es d) = d
axis_of_set ks Ps d = d

-- The declaration of a plan's table.
abbrev pub decl_of : Names TypeKind → List Plan → Plan → TableDecl
decl_of ks Ps (size_plan t n) = record { name = n; axes = []; cell = int_dom (low_end ∷ []) (more_exs (number_ex (pos 1)) no_exs) }
decl_of ks Ps (value_plan f x r d ns) = record { name = first_name ns; axes = axis_of_set ks Ps d ∷ []; cell = bool_dom }

-- A literal as a number: a truth value by its code, a value of a type by its position.
abbrev pub number_of : Names (Text × ℕ) → Lit → ℤ
number_of vs (num k) = k
number_of vs (truth_lit true) = pos 1
number_of vs (truth_lit false) = pos 0
number_of vs (value_name n) = pos (or_default (option_map (λ v. v.1) (look vs n)) 0)

-- The cell of a literal in the table of a find.
abbrev pub rule_of : Names (Text × ℕ) → List Plan → Lit → Text → Ex
rule_of vs Ps l x = cell_ex true (table_of Ps x) (more_exs (number_ex (number_of vs l)) no_exs)

-- The constraints.
abbrev pub rules_of : Names (Text × ℕ) → List Plan → List Line → List Ex
rules_of vs Ps [] = []
rules_of vs Ps (holds_lit l x ∷ U) = rule_of vs Ps l x ∷ rules_of vs Ps U
rules_of vs Ps (l ∷ U) = rules_of vs Ps U

-- The model.
abbrev pub model_of : List Line → Model
model_of T =
    let ks : Names TypeKind = (after_all T none_declared).types in
    let Ps : List Plan = plans (spec T) no_options in
    record {
      givens = map (decl_of ks Ps) (plans_for givens_side (spec T) no_options);
      finds = map (decl_of ks Ps) (plans_for finds_side (spec T) no_options);
      goal = no_goal;
      rules = rules_of (after_all T none_declared).values Ps T;
    }
