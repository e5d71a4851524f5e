-- The types of the names that are in scope at the open part of a tree.
use Rattle.ess_semantics.specs.Names.{Names}
use Rattle.ess_semantics.specs.Trees.{Gens, no_gens, over, from, cond}
use Rattle.ess_semantics.specs.Types.{Ty, type_of_dom, bind_types}
use Rattle.ess_semantics.specs.Typing.{source_ty}
use Rattle.ess_semantics.specs.Contexts.{In, Ins, InGens, InDom, InDoms, hole, in_operand, in_item, in_index_domain, in_body, in_generators, in_cell_index, in_view_domain, in_view_index, in_first, in_later, in_generator_domain, behind_over, in_source, behind_from, in_condition, behind_condition, in_bound, in_component, in_field, in_index, in_element, in_set_number, in_set_member, in_mset_number, in_mset_member, in_function_number, in_argument, in_result, in_relation_number, in_relation_component, in_partition_number, in_partition_member, in_first_domain, in_later_domain}

-- The types of names behind generators.
abbrev pub names_behind : Gens → Names Ty → Names Ty
names_behind no_gens g = g
names_behind (over p d gs) g = names_behind gs (bind_types p (type_of_dom d) g)
names_behind (from p e gs) g = names_behind gs (bind_types p (source_ty e g) g)
names_behind (cond e gs) g = names_behind gs g

abbrev mutual
  -- The types of the names in scope at the open part.
  pub names_at : In → Names Ty → Names Ty
  names_at hole g = g
  names_at (in_operand b op c) g = names_at_exs c g
  names_at (in_item c d) g = names_at_exs c g
  names_at (in_index_domain es c) g = names_at_dom c g
  names_at (in_body c gs) g = names_at c (names_behind gs g)
  names_at (in_generators x c) g = names_at_gens c g
  names_at (in_cell_index b n c) g = names_at_exs c g
  names_at (in_view_domain r c ns es) g = names_at_dom c g
  names_at (in_view_index r d ns c) g = names_at_exs c g

  -- The same of several expressions.
  pub names_at_exs : Ins → Names Ty → Names Ty
  names_at_exs (in_first c es) g = names_at c g
  names_at_exs (in_later x c) g = names_at_exs c g

  -- The same of generators.
  pub names_at_gens : InGens → Names Ty → Names Ty
  names_at_gens (in_generator_domain p c gs) g = names_at_dom c g
  names_at_gens (behind_over p d c) g = names_at_gens c (bind_types p (type_of_dom d) g)
  names_at_gens (in_source p c gs) g = names_at c g
  names_at_gens (behind_from p x c) g = names_at_gens c (bind_types p (source_ty x g) g)
  names_at_gens (in_condition c gs) g = names_at c g
  names_at_gens (behind_condition x c) g = names_at_gens c g

  -- The same of a domain.
  pub names_at_dom : InDom → Names Ty → Names Ty
  names_at_dom (in_bound rs c) g = names_at_exs c g
  names_at_dom (in_component c) g = names_at_doms c g
  names_at_dom (in_field fs c) g = names_at_doms c g
  names_at_dom (in_index c d) g = names_at_doms c g
  names_at_dom (in_element is c) g = names_at_dom c g
  names_at_dom (in_set_number ms c d) g = names_at_exs c g
  names_at_dom (in_set_member ms es c) g = names_at_dom c g
  names_at_dom (in_mset_number ms c d) g = names_at_exs c g
  names_at_dom (in_mset_member ms es c) g = names_at_dom c g
  names_at_dom (in_function_number ms c d r) g = names_at_exs c g
  names_at_dom (in_argument ms es c r) g = names_at_dom c g
  names_at_dom (in_result ms es d c) g = names_at_dom c g
  names_at_dom (in_relation_number ms c ds) g = names_at_exs c g
  names_at_dom (in_relation_component ms es c) g = names_at_doms c g
  names_at_dom (in_partition_number ms c d) g = names_at_exs c g
  names_at_dom (in_partition_member ms es c) g = names_at_dom c g

  -- The same of several domains.
  pub names_at_doms : InDoms → Names Ty → Names Ty
  names_at_doms (in_first_domain c ds) g = names_at_dom c g
  names_at_doms (in_later_domain d c) g = names_at_doms c g
