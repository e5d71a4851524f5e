-- What the size of a view of a total function counts on: the bound of its first domain says how many members that has.
use Rattle.std.specs.Prelude.{◌≡◌, List, length, Some, IsTrue, pos}
use Rattle.ess_semantics.specs.Values.{Value, number}
use Rattle.ess_semantics.specs.Trees.{Ex, seen_ex, ex1, Dom, function_dom}
use Rattle.ess_semantics.specs.Meaning.{Env, meaning, domain_of, members_in}
use Rattle.ess_semantics.specs.Meets.{Meets}
use Rattle.ess_semantics.specs.Kept.{Keeps}
use Rattle.ess_repr_declare_laws.specs.SizeTerms.{bound_ex}
use Rattle.ess_rules_laws.specs.FunctionKeys.{is_total_view}
use Rattle.ess_kind_rules_laws.specs.KindRules.{function_size}

-- The bound says how many members the domain has, and the tables meet its structures.
pub record BoundSays (d : Dom) (env : Env) : Type 0 where
  pub members : List Value
  pub are_members : members_in (domain_of d env) ≡ Some members
  pub says : meaning (bound_ex d) env ≡ Some (number (pos (length members)))
  pub met : Meets (bound_ex d) env

-- So it is of the first domain of a function.
abbrev pub FirstBound : Ex → Env → Type 0
FirstBound (seen_ex r (function_dom ms es d c) ns js) env = BoundSays d env
FirstBound e env = Unit {0}

-- And of the function whose size is taken, which is kept by argument.
abbrev pub FunctionSizeAsks : Ex → Env → Type 0
FunctionSizeAsks (ex1 b o v) env = IsTrue (is_total_view v) × FirstBound v env
FunctionSizeAsks e env = Unit {0}

-- So the size keeps its meaning as that bound.
abbrev pub FunctionSizesServe : Type 0
FunctionSizesServe = (e f : Ex) → function_size e ≡ Some f → (env : Env) → FunctionSizeAsks e env → Keeps e f env
