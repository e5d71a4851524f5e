-- Each record of a domain has a component for each field, as in each tree.
use Rattle.std.specs.Prelude.{◌≡◌, Bool, true, false, List, [], ◌∷◌}
use Rattle.ess_semantics.specs.Values.{Text}
use Rattle.ess_semantics.specs.Trees.{Dom, Doms, tuple_dom, record_dom, matrix_dom, set_dom, mset_dom, function_dom, relation_dom, partition_dom, no_doms, more_doms}

-- Whether there are as many fields as components.
abbrev pub are_paired : List Text → Doms → Bool
are_paired [] no_doms = true
are_paired (f ∷ fs) (more_doms d ds) = are_paired fs ds
are_paired _ ds = false

abbrev mutual
  -- The records in a domain, at each depth, have as many components as fields. Index domains have no records.
  pub Fielded : Dom → Type 0
  Fielded (tuple_dom ds) = AllFielded ds
  Fielded (record_dom fs ds) = (are_paired fs ds ≡ true) × AllFielded ds
  Fielded (matrix_dom is d) = Fielded d
  Fielded (set_dom ms es d) = Fielded d
  Fielded (mset_dom ms es d) = Fielded d
  Fielded (function_dom ms es d c) = Fielded d × Fielded c
  Fielded (relation_dom ms es ds) = AllFielded ds
  Fielded (partition_dom ms es d) = Fielded d
  Fielded d = Unit {0}

  -- The same of several domains.
  pub AllFielded : Doms → Type 0
  AllFielded no_doms = Unit {0}
  AllFielded (more_doms d ds) = Fielded d × AllFielded ds
