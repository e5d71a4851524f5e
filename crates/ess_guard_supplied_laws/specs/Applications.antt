-- Applications that resolving leaves are of relations, so they have the type bool; or they are of the type of an empty literal's members,
-- of which nothing is known. And a text's function literals are of pairs.
use Rattle.std.specs.Prelude.{◌≡◌, Bool, true, Option}
use Rattle.ess_semantics.specs.Names.{Names}
use Rattle.ess_semantics.specs.Trees.{Op, application, function_literal, Ex, Exs, number_ex, truth_ex, name_ex, node_ex, matrix_ex, comp_ex, cell_ex, seen_ex, no_exs, more_exs, Gens, no_gens, over, from, cond, Dom, Doms, bool_dom, int_dom, name_dom, tuple_dom, record_dom, matrix_dom, set_dom, mset_dom, function_dom, relation_dom, partition_dom, no_doms, more_doms}
use Rattle.ess_semantics.specs.Types.{Ty, is_bool, type_of_dom, bind_types}
use Rattle.ess_semantics.specs.Typing.{type_of, source_ty}
use Rattle.ess_semantics.specs.NamesAt.{names_behind}
use Rattle.ess_guard_laws.specs.Covered.{are_pairs}

-- Whether the operator, where it is an application, has the type bool; and where it is a function literal, is of pairs.
abbrev pub is_told : Op → Exs → Option Ty → Bool
is_told application es t = is_bool t
is_told function_literal es t = are_pairs es
is_told op es t = true

abbrev mutual
  -- Each application in the tree has the type bool, and each function literal is of pairs.
  pub ApplicationsAreTold : Ex → Names Ty → Type 0
  ApplicationsAreTold (number_ex n) g = Unit {0}
  ApplicationsAreTold (truth_ex b) g = Unit {0}
  ApplicationsAreTold (name_ex a) g = Unit {0}
  ApplicationsAreTold (node_ex b op es) g = (is_told op es (type_of (node_ex b op es) g) ≡ true) × AllApplicationsAreTold es g
  ApplicationsAreTold (matrix_ex es d) g = AllApplicationsAreTold es g × DomApplicationsAreTold d g
  ApplicationsAreTold (comp_ex e gs) g = ApplicationsAreTold e (names_behind gs g) × GensApplicationsAreTold gs g
  ApplicationsAreTold (cell_ex b n es) g = AllApplicationsAreTold es g
  ApplicationsAreTold (seen_ex r d ns es) g = Unit {0}

  -- The same of operands.
  pub AllApplicationsAreTold : Exs → Names Ty → Type 0
  AllApplicationsAreTold no_exs g = Unit {0}
  AllApplicationsAreTold (more_exs e es) g = ApplicationsAreTold e g × AllApplicationsAreTold es g

  -- The same of generators.
  pub GensApplicationsAreTold : Gens → Names Ty → Type 0
  GensApplicationsAreTold no_gens g = Unit {0}
  GensApplicationsAreTold (over p d gs) g = DomApplicationsAreTold d g × GensApplicationsAreTold gs (bind_types p (type_of_dom d) g)
  GensApplicationsAreTold (from p e gs) g = ApplicationsAreTold e g × GensApplicationsAreTold gs (bind_types p (source_ty e g) g)
  GensApplicationsAreTold (cond c gs) g = ApplicationsAreTold c g × GensApplicationsAreTold gs g

  -- The same of a domain.
  pub DomApplicationsAreTold : Dom → Names Ty → Type 0
  DomApplicationsAreTold bool_dom g = Unit {0}
  DomApplicationsAreTold (int_dom rs es) g = AllApplicationsAreTold es g
  DomApplicationsAreTold (name_dom a) g = Unit {0}
  DomApplicationsAreTold (tuple_dom ds) g = DomsApplicationsAreTold ds g
  DomApplicationsAreTold (record_dom fs ds) g = DomsApplicationsAreTold ds g
  DomApplicationsAreTold (matrix_dom is d) g = DomsApplicationsAreTold is g × DomApplicationsAreTold d g
  DomApplicationsAreTold (set_dom ms es d) g = AllApplicationsAreTold es g × DomApplicationsAreTold d g
  DomApplicationsAreTold (mset_dom ms es d) g = AllApplicationsAreTold es g × DomApplicationsAreTold d g
  DomApplicationsAreTold (function_dom ms es d c) g = AllApplicationsAreTold es g × DomApplicationsAreTold d g × DomApplicationsAreTold c g
  DomApplicationsAreTold (relation_dom ms es ds) g = AllApplicationsAreTold es g × DomsApplicationsAreTold ds g
  DomApplicationsAreTold (partition_dom ms es d) g = AllApplicationsAreTold es g × DomApplicationsAreTold d g

  -- The same of several domains.
  pub DomsApplicationsAreTold : Doms → Names Ty → Type 0
  DomsApplicationsAreTold no_doms g = Unit {0}
  DomsApplicationsAreTold (more_doms d ds) g = DomApplicationsAreTold d g × DomsApplicationsAreTold ds g
