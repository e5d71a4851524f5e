-- Trees that are total but for tests of indices. A test is `m[i] = m[i]`, where the form of m tells no index domain: there `m[i]` may
-- have nothing though m and i have values, and the test is false. Everything else is total as in `Total`; but of an application, which
-- resolving leaves of relations alone, a value is asked only where what is applied has a relation as its value.
use Rattle.std.specs.Prelude.{◌≡◌, Bool, true, false, ◌⊎◌, List, [], ◌∷◌, Option, Some, None, IsTrue}
use Rattle.ess_semantics.specs.declared.words.Op2.{Op2}
use Rattle.ess_semantics.specs.Values.{a_relation, Value, Values, node}
use Rattle.ess_semantics.specs.Trees.{by_value, Op, binary, application, Ex, Exs, number_ex, truth_ex, name_ex, node_ex, matrix_ex, comp_ex, cell_ex, seen_ex, no_exs, more_exs, Gens, no_gens, over, from, cond, Dom, Doms, bool_dom, int_dom, name_dom, tuple_dom, record_dom, matrix_dom, set_dom, mset_dom, function_dom, relation_dom, partition_dom, no_doms, more_doms}
use Rattle.ess_semantics.specs.Operators.{value_of_node}
use Rattle.ess_semantics.specs.Meaning.{Env, meaning, meanings, domain_of, members_in, with_pat, has_meaning}
use Rattle.ess_semantics.specs.Contexts.{EachOf, EachIn, WhenTrue}
use Rattle.ess_semantics.specs.Totality.{HasValue}
use Rattle.ess_guard_laws.specs.Conditions.{at_step}
use Rattle.ess_guard_laws.specs.Covered.{has_axis}

-- ---- tests

-- The index of m by the value of i.
abbrev pub item_of : Ex → Ex → Ex
item_of m i = at_step by_value m (more_exs i no_exs)

-- The node is a test: the equation of an index with itself, of a matrix whose form tells no index domain.
pub record IsTest (b : Bool) (op : Op) (es : Exs) : Type 0 where
  pub m : Ex
  pub i : Ex
  pub marked : b ≡ true
  pub equation : op ≡ binary Op2.Eq
  pub sides : es ≡ more_exs (item_of m i) (more_exs (item_of m i) no_exs)
  pub untold : has_axis m ≡ false

-- ---- values

-- What is applied.
abbrev pub first_of : List (Option Value) → Option Value
first_of [] = None
first_of (o ∷ os) = o

-- The operator has a value where all operands have one; an application where the first one is a relation.
abbrev pub HasItsValue : Op → List (Option Value) → Type 0
HasItsValue application os = (ps : Values) → first_of os ≡ Some (node a_relation ps) → HasValue (value_of_node application os) os
HasItsValue op os = HasValue (value_of_node op os) os

-- ---- trees

abbrev mutual
  -- Each operator of the expression is total but for tests, at each binding of generators whose conditions hold. W holds where the
  -- expression is a side of a test: then it may have nothing itself.
  pub TotalButTests : Type 0 → Ex → Env → Type 0
  TotalButTests W (number_ex n) env = Unit {0}
  TotalButTests W (truth_ex b) env = Unit {0}
  TotalButTests W (name_ex a) env = Unit {0}
  TotalButTests W (node_ex b op es) env = (HasItsValue op (meanings es env) ⊎ W) × AllTotalButTests (IsTest b op es) es env
  TotalButTests W (matrix_ex es d) env =
      (IsTrue (has_meaning d env) → HasValue (meaning (matrix_ex es d) env) (meanings es env)) × AllTotalButTests ⊥ es env
      × DomTotalButTests d env
  TotalButTests W (comp_ex e gs) env = UnderTotalButTests gs env (λ here. TotalButTests ⊥ e here)
  TotalButTests W (cell_ex b n es) env = AllTotalButTests ⊥ es env
  TotalButTests W (seen_ex r d ns es) env = Unit {0}

  -- The same of operands.
  pub AllTotalButTests : Type 0 → Exs → Env → Type 0
  AllTotalButTests W no_exs env = Unit {0}
  AllTotalButTests W (more_exs e es) env = TotalButTests W e env × AllTotalButTests W es env

  -- The same of generators, and P at each of their bindings.
  pub UnderTotalButTests : Gens → Env → (Env → Type 0) → Type 0
  UnderTotalButTests no_gens env P = P env
  UnderTotalButTests (over p d gs) env P =
      DomTotalButTests d env × EachOf (members_in (domain_of d env)) (λ v. UnderTotalButTests gs (with_pat p v env) P)
  UnderTotalButTests (from p e gs) env P =
      TotalButTests ⊥ e env × EachIn (meaning e env) (λ v. UnderTotalButTests gs (with_pat p v env) P)
  UnderTotalButTests (cond e gs) env P = TotalButTests ⊥ e env × WhenTrue (meaning e env) (UnderTotalButTests gs env P)

  -- The same of a domain.
  pub DomTotalButTests : Dom → Env → Type 0
  DomTotalButTests bool_dom env = Unit {0}
  DomTotalButTests (int_dom rs es) env = AllTotalButTests ⊥ es env
  DomTotalButTests (name_dom a) env = Unit {0}
  DomTotalButTests (tuple_dom ds) env = DomsTotalButTests ds env
  DomTotalButTests (record_dom fs ds) env = DomsTotalButTests ds env
  DomTotalButTests (matrix_dom is d) env = DomsTotalButTests is env × DomTotalButTests d env
  DomTotalButTests (set_dom ms es d) env = AllTotalButTests ⊥ es env × DomTotalButTests d env
  DomTotalButTests (mset_dom ms es d) env = AllTotalButTests ⊥ es env × DomTotalButTests d env
  DomTotalButTests (function_dom ms es d c) env = AllTotalButTests ⊥ es env × DomTotalButTests d env × DomTotalButTests c env
  DomTotalButTests (relation_dom ms es ds) env = AllTotalButTests ⊥ es env × DomsTotalButTests ds env
  DomTotalButTests (partition_dom ms es d) env = AllTotalButTests ⊥ es env × DomTotalButTests d env

  -- The same of several domains.
  pub DomsTotalButTests : Doms → Env → Type 0
  DomsTotalButTests no_doms env = Unit {0}
  DomsTotalButTests (more_doms d ds) env = DomTotalButTests d env × DomsTotalButTests ds env
