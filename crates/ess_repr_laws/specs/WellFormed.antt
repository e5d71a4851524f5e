-- What is asked of a domain expression beside that its representation fits. The judgements on domains ask it.
use Rattle.std.specs.Prelude.{◌≡◌, Bool, true, false, not}
use Rattle.std.specs.List.{list_all}
use Rattle.ess_semantics.specs.declared.words.Key.{Key}
use Rattle.ess_semantics.specs.Trees.{Mark, flag, valued, Dom, Doms, tuple_dom, record_dom, matrix_dom, set_dom, mset_dom, function_dom, relation_dom, partition_dom, no_doms, more_doms}
use Rattle.ess_semantics.specs.Kinds.{has_key, are_atoms}
use Rattle.ess_semantics.specs.DomainJudgements.{is_enumerable}

-- Whether the attribute has a number.
abbrev pub is_numbered : Key → Bool
is_numbered Key.Reflexive = false
is_numbered Key.Irreflexive = false
is_numbered Key.Symmetric = false
is_numbered Key.AntiSymmetric = false
is_numbered Key.ASymmetric = false
is_numbered Key.Transitive = false
is_numbered Key.Total = false
is_numbered Key.Injective = false
is_numbered Key.Surjective = false
is_numbered Key.Bijective = false
is_numbered Key.Regular = false
is_numbered _ = true

-- An attribute stands with a number exactly where it has one.
abbrev pub is_right : Mark → Bool
is_right (valued k) = is_numbered k
is_right (flag k) = not (is_numbered k)

abbrev mutual
  -- Attributes stand with a number where they have one, index domains are atoms, total functions are from enumerable domains.
  pub Well : Dom → Type 0
  Well (tuple_dom ds) = AllWell ds
  Well (record_dom fs ds) = AllWell ds
  Well (matrix_dom is d) = (are_atoms is ≡ true) × AllWell is × Well d
  Well (set_dom ms es d) = (list_all is_right ms ≡ true) × Well d
  Well (mset_dom ms es d) = (list_all is_right ms ≡ true) × Well d
  Well (function_dom ms es d c) = (list_all is_right ms ≡ true) × (has_key Key.Total ms ≡ true → is_enumerable d ≡ true) × Well d × Well c
  Well (relation_dom ms es ds) = (list_all is_right ms ≡ true) × AllWell ds
  Well (partition_dom ms es d) = (list_all is_right ms ≡ true) × Well d
  Well d = Unit {0}

  -- The same of several domains.
  pub AllWell : Doms → Type 0
  AllWell no_doms = Unit {0}
  AllWell (more_doms d ds) = Well d × AllWell ds
