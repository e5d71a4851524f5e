-- Trees in which each part has a type under the types of names: a node that is marked as a Boolean has the type bool, a condition agrees
-- with bool, a number of a domain with int, a source has members. No index is taken of the literal `[]`, which agrees with every index.
use Rattle.std.specs.Prelude.{◌≡◌, Bool, true, false, not, Option, is_some}
use Rattle.ess_semantics.specs.Lists.{and_then, is_some_and}
use Rattle.ess_semantics.specs.Names.{Names, look}
use Rattle.ess_semantics.specs.Trees.{Op, index, matrix_literal, Ex, Exs, number_ex, truth_ex, name_ex, node_ex, matrix_ex, comp_ex, cell_ex, seen_ex, no_exs, more_exs, Gens, no_gens, over, from, cond, Dom, Doms, bool_dom, int_dom, name_dom, tuple_dom, record_dom, matrix_dom, set_dom, mset_dom, function_dom, relation_dom, partition_dom, no_doms, more_doms}
use Rattle.ess_semantics.specs.Types.{Ty, bool_ty, int_ty, is_bool, join, type_of_dom, bind_types}
use Rattle.ess_semantics.specs.OperatorTypes.{member_ty}
use Rattle.ess_semantics.specs.Typing.{type_of, source_ty}
use Rattle.ess_semantics.specs.NamesAt.{names_behind}

-- Whether there is a type, and it agrees with this one.
abbrev pub agrees : Option Ty → Ty → Bool
agrees t u = is_some_and t (λ v. is_some (join v u))

-- Whether there is a type, which is bool where the node is marked as a Boolean.
abbrev pub fits_mark : Bool → Option Ty → Bool
fits_mark true t = is_bool t
fits_mark false t = is_some t

-- Whether it is the literal `[]`.
abbrev pub is_empty_list : Ex → Bool
is_empty_list (node_ex false matrix_literal no_exs) = true
is_empty_list e = false

-- Whether the operator is no index of `[]`.
abbrev pub indexes_items : Op → Exs → Bool
indexes_items (index qs) (more_exs m is) = not (is_empty_list m)
indexes_items op es = true

abbrev mutual
  -- Each part of the expression is so.
  pub HasTypes : Ex → Names Ty → Type 0
  HasTypes (number_ex n) g = Unit {0}
  HasTypes (truth_ex b) g = Unit {0}
  HasTypes (name_ex a) g = is_some (look g a) ≡ true
  HasTypes (node_ex b op es) g = (fits_mark b (type_of (node_ex b op es) g) ≡ true) × (indexes_items op es ≡ true) × HaveTypes es g
  HasTypes (matrix_ex es d) g = (is_some (type_of (matrix_ex es d) g) ≡ true) × HaveTypes es g × DomHasTypes d g
  HasTypes (comp_ex e gs) g = GensHaveTypes gs g × HasTypes e (names_behind gs g)
  HasTypes (cell_ex b n es) g = HaveTypes es g
  HasTypes (seen_ex r d ns es) g = DomHasTypes d g × HaveTypes es g

  -- The same of operands.
  pub HaveTypes : Exs → Names Ty → Type 0
  HaveTypes no_exs g = Unit {0}
  HaveTypes (more_exs e es) g = HasTypes e g × HaveTypes es g

  -- The same of generators.
  pub GensHaveTypes : Gens → Names Ty → Type 0
  GensHaveTypes no_gens g = Unit {0}
  GensHaveTypes (over p d gs) g = DomHasTypes d g × GensHaveTypes gs (bind_types p (type_of_dom d) g)
  GensHaveTypes (from p e gs) g =
      (is_some (and_then (type_of e g) member_ty) ≡ true) × HasTypes e g × GensHaveTypes gs (bind_types p (source_ty e g) g)
  GensHaveTypes (cond e gs) g = (agrees (type_of e g) bool_ty ≡ true) × HasTypes e g × GensHaveTypes gs g

  -- The same of numbers of a domain.
  pub AreNumbers : Exs → Names Ty → Type 0
  AreNumbers no_exs g = Unit {0}
  AreNumbers (more_exs e es) g = (agrees (type_of e g) int_ty ≡ true) × HasTypes e g × AreNumbers es g

  -- The same of a domain.
  pub DomHasTypes : Dom → Names Ty → Type 0
  DomHasTypes bool_dom g = Unit {0}
  DomHasTypes (int_dom rs es) g = AreNumbers es g
  DomHasTypes (name_dom a) g = Unit {0}
  DomHasTypes (tuple_dom ds) g = DomsHaveTypes ds g
  DomHasTypes (record_dom fs ds) g = DomsHaveTypes ds g
  DomHasTypes (matrix_dom is d) g = DomsHaveTypes is g × DomHasTypes d g
  DomHasTypes (set_dom ms es d) g = AreNumbers es g × DomHasTypes d g
  DomHasTypes (mset_dom ms es d) g = AreNumbers es g × DomHasTypes d g
  DomHasTypes (function_dom ms es d c) g = AreNumbers es g × DomHasTypes d g × DomHasTypes c g
  DomHasTypes (relation_dom ms es ds) g = AreNumbers es g × DomsHaveTypes ds g
  DomHasTypes (partition_dom ms es d) g = AreNumbers es g × DomHasTypes d g

  -- The same of several domains.
  pub DomsHaveTypes : Doms → Names Ty → Type 0
  DomsHaveTypes no_doms g = Unit {0}
  DomsHaveTypes (more_doms d ds) g = DomHasTypes d g × DomsHaveTypes ds g
