-- Domains as judged texts have them, as far as the types of their members go: each index domain is an atom, and each relation
-- has a component.
use Rattle.std.specs.Prelude.{Bool, true, false, ◌&&◌}
use Rattle.ess_semantics.specs.Trees.{Dom, Doms, tuple_dom, record_dom, matrix_dom, set_dom, mset_dom, function_dom, relation_dom, partition_dom, no_doms, more_doms}
use Rattle.ess_semantics.specs.Kinds.{is_atom}

-- Whether each of the domains is an atom.
abbrev pub each_is_atom : Doms → Bool
each_is_atom no_doms = true
each_is_atom (more_doms d ds) = is_atom d && each_is_atom ds

abbrev mutual
  -- Whether the domain is so, with all domains in it.
  pub is_proper : Dom → Bool
  is_proper (tuple_dom ds) = are_proper ds
  is_proper (record_dom fs ds) = are_proper ds
  is_proper (matrix_dom is d) = each_is_atom is && is_proper d
  is_proper (set_dom ms es d) = is_proper d
  is_proper (mset_dom ms es d) = is_proper d
  is_proper (function_dom ms es d c) = is_proper d && is_proper c
  is_proper (relation_dom ms es no_doms) = false
  is_proper (relation_dom ms es (more_doms d ds)) = is_proper d && are_proper ds
  is_proper (partition_dom ms es d) = is_proper d
  is_proper d = true

  -- The same of several domains.
  pub are_proper : Doms → Bool
  are_proper no_doms = true
  are_proper (more_doms d ds) = is_proper d && are_proper ds
