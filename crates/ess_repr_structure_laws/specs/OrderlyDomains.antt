-- What the judgements on domains say of each layer of a domain, as far as structures need it.
use Rattle.std.specs.Prelude.{◌≡◌, true}
use Rattle.std.specs.List.{list_all}
use Rattle.ess_semantics.specs.DomainJudgements.{marks_fit, is_enumerable, listed_domains}
use Rattle.ess_semantics.specs.Kinds.{are_atoms}
use Rattle.ess_semantics.specs.Trees.{Dom, Doms, tuple_dom, record_dom, matrix_dom, set_dom, mset_dom, function_dom, relation_dom, partition_dom, no_doms, more_doms}

-- The attributes are those of the domain's kind, none stands twice, and the domains whose members they list are enumerable.
abbrev pub LayerIsOrderly : Dom → Type 0
LayerIsOrderly d = (marks_fit d ≡ true) × (list_all is_enumerable (listed_domains d) ≡ true)

abbrev mutual
  -- Each layer is so, and index domains are atoms.
  pub Orderly : Dom → Type 0
  Orderly (tuple_dom ds) = AllOrderly ds
  Orderly (record_dom fs ds) = AllOrderly ds
  Orderly (matrix_dom is d) = (are_atoms is ≡ true) × Orderly d
  Orderly (set_dom ms es d) = LayerIsOrderly (set_dom ms es d) × Orderly d
  Orderly (mset_dom ms es d) = LayerIsOrderly (mset_dom ms es d) × Orderly d
  Orderly (function_dom ms es d c) = LayerIsOrderly (function_dom ms es d c) × Orderly d × Orderly c
  Orderly (relation_dom ms es ds) = LayerIsOrderly (relation_dom ms es ds) × AllOrderly ds
  Orderly (partition_dom ms es d) = LayerIsOrderly (partition_dom ms es d) × Orderly d
  Orderly d = Unit {0}

  -- The same of several domains.
  pub AllOrderly : Doms → Type 0
  AllOrderly no_doms = Unit {0}
  AllOrderly (more_doms d ds) = Orderly d × AllOrderly ds
