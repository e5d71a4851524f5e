-- The numbers in a domain are whole numbers, and no truth values that are read as ones. The judgements on types say so of bounds and
-- attribute values.
use Rattle.ess_semantics.specs.Trees.{Dom, Doms, bool_dom, int_dom, name_dom, tuple_dom, record_dom, matrix_dom, set_dom, mset_dom, function_dom, relation_dom, partition_dom, no_doms, more_doms}
use Rattle.ess_semantics.specs.Meaning.{Env}
use Rattle.ess_repr_laws.specs.StructureMeaning.{AllNumbers}

abbrev mutual
  -- Each bound and each attribute value that reads a number is that number.
  pub NumbersIn : Dom → Env → Type 0
  NumbersIn bool_dom env = Unit {0}
  NumbersIn (int_dom rs es) env = AllNumbers es env
  NumbersIn (name_dom a) env = Unit {0}
  NumbersIn (tuple_dom ds) env = AllNumbersIn ds env
  NumbersIn (record_dom fs ds) env = AllNumbersIn ds env
  NumbersIn (matrix_dom is d) env = AllNumbersIn is env × NumbersIn d env
  NumbersIn (set_dom ms es d) env = AllNumbers es env × NumbersIn d env
  NumbersIn (mset_dom ms es d) env = AllNumbers es env × NumbersIn d env
  NumbersIn (function_dom ms es d c) env = AllNumbers es env × NumbersIn d env × NumbersIn c env
  NumbersIn (relation_dom ms es ds) env = AllNumbers es env × AllNumbersIn ds env
  NumbersIn (partition_dom ms es d) env = AllNumbers es env × NumbersIn d env

  -- The same of several domains.
  pub AllNumbersIn : Doms → Env → Type 0
  AllNumbersIn no_doms env = Unit {0}
  AllNumbersIn (more_doms d ds) env = NumbersIn d env × AllNumbersIn ds env
