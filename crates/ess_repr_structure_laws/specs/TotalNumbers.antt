-- A domain whose bounds and attribute values stand under their conditions: a number that may have nothing is 0 where it has nothing. So
-- what is built of the domain is total. x and y are reserved names, for conditions that bind one.
use Rattle.std.specs.Prelude.{true}
use Rattle.ess_semantics.specs.Values.{Text}
use Rattle.ess_semantics.specs.Trees.{Exs, no_exs, more_exs, Dom, Doms, bool_dom, int_dom, name_dom, tuple_dom, record_dom, matrix_dom, set_dom, mset_dom, function_dom, relation_dom, partition_dom, no_doms, more_doms}
use Rattle.ess_guard_laws.specs.Guard.{make_total_term}

module _ (x y : Text) where
  -- Each number under its conditions.
  abbrev pub total_numbers : Exs → Exs
  total_numbers no_exs = no_exs
  total_numbers (more_exs e es) = more_exs ((make_total_term x y true e).1) (total_numbers es)

  abbrev mutual
    -- The domain with each bound and attribute value under its conditions.
    pub total_dom : Dom → Dom
    total_dom bool_dom = bool_dom
    total_dom (int_dom rs es) = int_dom rs (total_numbers es)
    total_dom (name_dom a) = name_dom a
    total_dom (tuple_dom ds) = tuple_dom (total_doms ds)
    total_dom (record_dom fs ds) = record_dom fs (total_doms ds)
    total_dom (matrix_dom is d) = matrix_dom (total_doms is) (total_dom d)
    total_dom (set_dom ms es d) = set_dom ms (total_numbers es) (total_dom d)
    total_dom (mset_dom ms es d) = mset_dom ms (total_numbers es) (total_dom d)
    total_dom (function_dom ms es d c) = function_dom ms (total_numbers es) (total_dom d) (total_dom c)
    total_dom (relation_dom ms es ds) = relation_dom ms (total_numbers es) (total_doms ds)
    total_dom (partition_dom ms es d) = partition_dom ms (total_numbers es) (total_dom d)

    -- The same of several domains.
    pub total_doms : Doms → Doms
    total_doms no_doms = no_doms
    total_doms (more_doms d ds) = more_doms (total_dom d) (total_doms ds)
