-- When tables are full for a tree: whatever its cells and views read is there, at every binding of the generators in
-- scope at which those of their conditions hold that read no table. For this a name that a generator binds over an
-- expression takes every value of its type.
use Rattle.std.specs.Prelude.{Bool, true, false, ◌&&◌, ◌||◌, List, [], ◌∷◌, ◌++◌, map, ℤ, Option, IsTrue, is_some}
use Rattle.std.specs.List.{list_all}
use Rattle.ess_semantics.specs.Lists.{is_some_and, append_all}
use Rattle.ess_semantics.specs.Values.{Text, Value}
use Rattle.ess_semantics.specs.Trees.{Repr, Ex, Exs, number_ex, truth_ex, name_ex, node_ex, matrix_ex, comp_ex, cell_ex, seen_ex, no_exs, more_exs, Gens, no_gens, over, from, cond, Dom, Doms, bool_dom, int_dom, name_dom, tuple_dom, record_dom, matrix_dom, set_dom, mset_dom, function_dom, relation_dom, partition_dom, no_doms, more_doms}
use Rattle.ess_semantics.specs.Names.{Names}
use Rattle.ess_semantics.specs.Types.{Ty, type_of_dom, bind_types, pattern_names}
use Rattle.ess_semantics.specs.Typing.{source_ty}
use Rattle.ess_semantics.specs.TypeMembers.{is_of_type}
use Rattle.ess_semantics.specs.Domains.{lists_of}
use Rattle.ess_semantics.specs.Tables.{Table, Tables, cell_at}
use Rattle.ess_semantics.specs.Declarations.{Declaration, declarations}
use Rattle.ess_semantics.specs.Meaning.{Env, meaning, meanings, domain_of, members_in, with_pat, indices, tables_in}
use Rattle.ess_semantics.specs.Contexts.{EachOf, WhenTrue}
use Rattle.ess_semantics.specs.Occurrences.{parts_of, free_of, has_cells}

-- ---- full

-- Each cell of a view is there, over the declared axes, at the values of its index list.
abbrev pub is_there : List ℤ → Declaration → Table → Bool
is_there i d t = list_all (λ j. is_some (cell_at t (i ++ j))) (lists_of d.axes)

-- The same of all tables of a view.
abbrev pub are_there : List ℤ → List Declaration → Tables → Bool
are_there i [] [] = true
are_there i (d ∷ ds) (t ∷ ts) = is_there i d t && are_there i ds ts
are_there i _ _ = false

-- All that a view reads is there.
abbrev pub view_is_there : Repr → Dom → List Text → Exs → Env → Bool
view_is_there r d ns es env =
    is_some_and (domain_of d env) (λ e. is_some_and (tables_in env.cells ns) (λ c. is_some_and (indices (meanings es env)) (λ i. are_there i (declarations r e) c)))

-- A cell that is no Boolean has a value.
abbrev pub cell_is_there : Bool → Ex → Env → Bool
cell_is_there b e env = b || is_some (meaning e env)

-- A condition that reads no table must hold for what stands behind it.
abbrev pub Reached : Bool → Option Value → Type 0 → Type 0
Reached true o T = T
Reached false o T = WhenTrue o T

-- ---- index lists

-- The names that generators bind over expressions.
abbrev pub names_bound_over : Gens → List Text
names_bound_over no_gens = []
names_bound_over (over p d gs) = names_bound_over gs
names_bound_over (from p e gs) = pattern_names p ++ names_bound_over gs
names_bound_over (cond e gs) = names_bound_over gs

-- The same of the generators of a comprehension.
abbrev pub names_bound_at : Ex → List Text
names_bound_at (comp_ex e gs) = names_bound_over gs
names_bound_at e = []

-- The names that some generator of the tree binds over an expression.
abbrev pub names_over_expressions : Ex → List Text
names_over_expressions e = append_all (map names_bound_at (parts_of e))

-- None of these names stands in the index list, where the expression is a cell or view.
abbrev pub index_is_free : List Text → Ex → Bool
index_is_free ns (cell_ex b n es) = free_of ns es
index_is_free ns (seen_ex r d cs es) = free_of ns es
index_is_free ns e = true

-- None of these names stands in the index list of a cell or view.
abbrev pub indices_are_free : Ex → Bool
indices_are_free e = list_all (index_is_free (names_over_expressions e)) (parts_of e)

-- ---- what is read is there

abbrev mutual
  -- Each cell and view of the expression finds what it reads. g has the types of names.
  pub Full : Ex → Names Ty → Env → Type 0
  Full (number_ex n) g env = Unit {0}
  Full (truth_ex b) g env = Unit {0}
  Full (name_ex a) g env = Unit {0}
  Full (node_ex b op es) g env = FullAll es g env
  Full (matrix_ex es d) g env = FullAll es g env × FullDom d g env
  Full (comp_ex e gs) g env = FullUnder gs g env (λ h here. Full e h here)
  Full (cell_ex b n es) g env = IsTrue (cell_is_there b (cell_ex b n es) env) × FullAll es g env
  Full (seen_ex r d ns es) g env = IsTrue (view_is_there r d ns es env) × FullDom d g env × FullAll es g env

  -- The same of operands.
  pub FullAll : Exs → Names Ty → Env → Type 0
  FullAll no_exs g env = Unit {0}
  FullAll (more_exs e es) g env = Full e g env × FullAll es g env

  -- The same of generators, and of what stands under them.
  pub FullUnder : Gens → Names Ty → Env → (Names Ty → Env → Type 0) → Type 0
  FullUnder no_gens g env k = k g env
  FullUnder (over p d gs) g env k =
      FullDom d g env × EachOf (members_in (domain_of d env)) (λ v. FullUnder gs (bind_types p (type_of_dom d) g) (with_pat p v env) k)
  FullUnder (from p e gs) g env k =
      Full e g env × ((v : Value) → IsTrue (is_of_type (source_ty e g) env v) → FullUnder gs (bind_types p (source_ty e g) g) (with_pat p v env) k)
  FullUnder (cond e gs) g env k = Full e g env × Reached (has_cells e) (meaning e env) (FullUnder gs g env k)

  -- The same of a domain.
  pub FullDom : Dom → Names Ty → Env → Type 0
  FullDom bool_dom g env = Unit {0}
  FullDom (int_dom rs es) g env = FullAll es g env
  FullDom (name_dom a) g env = Unit {0}
  FullDom (tuple_dom ds) g env = FullDoms ds g env
  FullDom (record_dom fs ds) g env = FullDoms ds g env
  FullDom (matrix_dom is d) g env = FullDoms is g env × FullDom d g env
  FullDom (set_dom ms es d) g env = FullAll es g env × FullDom d g env
  FullDom (mset_dom ms es d) g env = FullAll es g env × FullDom d g env
  FullDom (function_dom ms es d c) g env = FullAll es g env × FullDom d g env × FullDom c g env
  FullDom (relation_dom ms es ds) g env = FullAll es g env × FullDoms ds g env
  FullDom (partition_dom ms es d) g env = FullAll es g env × FullDom d g env

  -- The same of several domains.
  pub FullDoms : Doms → Names Ty → Env → Type 0
  FullDoms no_doms g env = Unit {0}
  FullDoms (more_doms d ds) g env = FullDom d g env × FullDoms ds g env

-- The tables of the env are full for the tree, whose free names have the types g.
abbrev pub IsFull : Ex → Names Ty → Env → Type 0
IsFull e g env = IsTrue (indices_are_free e) × Full e g env
