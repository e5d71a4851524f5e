-- What a tree has where a term of the same type may be put for a name of it: no table of a cell has this name, and no index says it.
use Rattle.std.specs.Prelude.{◌≡◌, Bool, true, false, not, ◌&&◌, List, ◌∷◌, Option, Some, None, IsTrue}
use Rattle.ess_semantics.specs.Lists.{tail_of}
use Rattle.ess_semantics.specs.Values.{Text, a_tuple, a_record}
use Rattle.ess_semantics.specs.Names.{Names}
use Rattle.ess_semantics.specs.Trees.{Step, by_value, to_component, to_field, Op, index, Ex, Exs, number_ex, truth_ex, name_ex, node_ex, matrix_ex, comp_ex, cell_ex, seen_ex, no_exs, more_exs, Gens, no_gens, over, from, cond, Dom, Doms, bool_dom, int_dom, name_dom, tuple_dom, record_dom, matrix_dom, set_dom, mset_dom, function_dom, relation_dom, partition_dom, no_doms, more_doms}
use Rattle.ess_semantics.specs.Types.{Ty, compound, type_of_dom, bind_types}
use Rattle.ess_semantics.specs.Typing.{Static, a_number, a_name, statics, type_behind, part_behind, types_of, source_ty}
use Rattle.ess_semantics.specs.NamesAt.{names_behind}

-- ---- tables

abbrev mutual
  -- Each table of the tree's cells has a name with the property w.
  pub TablesAre : (Text → Bool) → Ex → Type 0
  TablesAre w (number_ex n) = Unit {0}
  TablesAre w (truth_ex b) = Unit {0}
  TablesAre w (name_ex a) = Unit {0}
  TablesAre w (node_ex b op es) = AllTablesAre w es
  TablesAre w (matrix_ex es d) = AllTablesAre w es × DomTablesAre w d
  TablesAre w (comp_ex e gs) = GensTablesAre w gs × TablesAre w e
  TablesAre w (cell_ex b n es) = IsTrue (w n) × AllTablesAre w es
  TablesAre w (seen_ex r d ns es) = DomTablesAre w d × AllTablesAre w es

  -- The same of operands.
  pub AllTablesAre : (Text → Bool) → Exs → Type 0
  AllTablesAre w no_exs = Unit {0}
  AllTablesAre w (more_exs e es) = TablesAre w e × AllTablesAre w es

  -- The same of generators.
  pub GensTablesAre : (Text → Bool) → Gens → Type 0
  GensTablesAre w no_gens = Unit {0}
  GensTablesAre w (over p d gs) = DomTablesAre w d × GensTablesAre w gs
  GensTablesAre w (from p e gs) = TablesAre w e × GensTablesAre w gs
  GensTablesAre w (cond e gs) = TablesAre w e × GensTablesAre w gs

  -- The same of a domain.
  pub DomTablesAre : (Text → Bool) → Dom → Type 0
  DomTablesAre w bool_dom = Unit {0}
  DomTablesAre w (int_dom rs es) = AllTablesAre w es
  DomTablesAre w (name_dom a) = Unit {0}
  DomTablesAre w (tuple_dom ds) = DomsTablesAre w ds
  DomTablesAre w (record_dom fs ds) = DomsTablesAre w ds
  DomTablesAre w (matrix_dom is d) = DomsTablesAre w is × DomTablesAre w d
  DomTablesAre w (set_dom ms es d) = AllTablesAre w es × DomTablesAre w d
  DomTablesAre w (mset_dom ms es d) = AllTablesAre w es × DomTablesAre w d
  DomTablesAre w (function_dom ms es d c) = AllTablesAre w es × DomTablesAre w d × DomTablesAre w c
  DomTablesAre w (relation_dom ms es ds) = AllTablesAre w es × DomsTablesAre w ds
  DomTablesAre w (partition_dom ms es d) = AllTablesAre w es × DomTablesAre w d

  -- The same of several domains.
  pub DomsTablesAre : (Text → Bool) → Doms → Type 0
  DomsTablesAre w no_doms = Unit {0}
  DomsTablesAre w (more_doms d ds) = DomTablesAre w d × DomsTablesAre w ds

-- ---- indices

-- Whether a step by value into what has this type would read what the index says: a number for a component, or a name for a field.
abbrev pub is_stepped : Option Ty → Bool
is_stepped (Some (compound a_tuple ts)) = true
is_stepped (Some (compound (a_record fs) ts)) = true
is_stepped t = false

-- Whether no step by value reads so, from a place of this type on.
abbrev pub by_values : Option Ty → List Step → List Static → List (Option Ty) → Bool
by_values t (by_value ∷ qs) (s ∷ ss) (u ∷ us) = not (is_stepped t) && by_values (type_behind t s u) qs ss us
by_values t (to_component k ∷ qs) ss us = by_values (part_behind t (a_number k)) qs ss us
by_values t (to_field a ∷ qs) ss us = by_values (part_behind t (a_name a)) qs ss us
by_values t qs ss us = true

-- The same of a node whose operands say this and have these types.
abbrev pub is_by_values : Op → List Static → List (Option Ty) → Bool
is_by_values (index qs) ss (t ∷ us) = by_values t qs (tail_of ss) us
is_by_values op ss us = true

abbrev mutual
  -- So it is with each index of the tree, as with those of resolved ones.
  pub IsSteady : Ex → Names Ty → Type 0
  IsSteady (number_ex n) g = Unit {0}
  IsSteady (truth_ex b) g = Unit {0}
  IsSteady (name_ex a) g = Unit {0}
  IsSteady (node_ex b op es) g = (is_by_values op (statics es) (types_of es g) ≡ true) × AreSteady es g
  IsSteady (matrix_ex es d) g = AreSteady es g × DomIsSteady d g
  IsSteady (comp_ex e gs) g = GensAreSteady gs g × IsSteady e (names_behind gs g)
  IsSteady (cell_ex b n es) g = AreSteady es g
  IsSteady (seen_ex r d ns es) g = DomIsSteady d g × AreSteady es g

  -- The same of operands.
  pub AreSteady : Exs → Names Ty → Type 0
  AreSteady no_exs g = Unit {0}
  AreSteady (more_exs e es) g = IsSteady e g × AreSteady es g

  -- The same of generators.
  pub GensAreSteady : Gens → Names Ty → Type 0
  GensAreSteady no_gens g = Unit {0}
  GensAreSteady (over p d gs) g = DomIsSteady d g × GensAreSteady gs (bind_types p (type_of_dom d) g)
  GensAreSteady (from p e gs) g = IsSteady e g × GensAreSteady gs (bind_types p (source_ty e g) g)
  GensAreSteady (cond e gs) g = IsSteady e g × GensAreSteady gs g

  -- The same of a domain.
  pub DomIsSteady : Dom → Names Ty → Type 0
  DomIsSteady bool_dom g = Unit {0}
  DomIsSteady (int_dom rs es) g = AreSteady es g
  DomIsSteady (name_dom a) g = Unit {0}
  DomIsSteady (tuple_dom ds) g = DomsAreSteady ds g
  DomIsSteady (record_dom fs ds) g = DomsAreSteady ds g
  DomIsSteady (matrix_dom is d) g = DomsAreSteady is g × DomIsSteady d g
  DomIsSteady (set_dom ms es d) g = AreSteady es g × DomIsSteady d g
  DomIsSteady (mset_dom ms es d) g = AreSteady es g × DomIsSteady d g
  DomIsSteady (function_dom ms es d c) g = AreSteady es g × DomIsSteady d g × DomIsSteady c g
  DomIsSteady (relation_dom ms es ds) g = AreSteady es g × DomsAreSteady ds g
  DomIsSteady (partition_dom ms es d) g = AreSteady es g × DomIsSteady d g

  -- The same of several domains.
  pub DomsAreSteady : Doms → Names Ty → Type 0
  DomsAreSteady no_doms g = Unit {0}
  DomsAreSteady (more_doms d ds) g = DomIsSteady d g × DomsAreSteady ds g
