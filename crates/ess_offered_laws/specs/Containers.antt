-- Domains whose values have members, and the names that a listing of such a value takes.
use Rattle.std.specs.Prelude.{◌≡◌, ◌≤◌, Bool, true, false, List, [], length}
use Rattle.ess_semantics.specs.Values.{Text}
use Rattle.ess_semantics.specs.Names.{all_distinct}
use Rattle.ess_semantics.specs.Kinds.{dom_list}
use Rattle.ess_semantics.specs.Trees.{Dom, tuple_dom, matrix_dom, set_dom, mset_dom, function_dom, relation_dom, partition_dom, more_doms}

-- Whether the domain is one of containers: of sets, multisets, functions, relations or partitions, or of matrices, which have an
-- index domain.
abbrev pub is_container : Dom → Bool
is_container (matrix_dom (more_doms i is) d) = true
is_container (set_dom ms es d) = true
is_container (mset_dom ms es d) = true
is_container (function_dom ms es d c) = true
is_container (relation_dom ms es ds) = true
is_container (partition_dom ms es d) = true
is_container d = false

-- The domains of the components of an argument of a function, or of a tuple of a relation.
abbrev pub components_for : Dom → List Dom
components_for (function_dom ms es (tuple_dom ds) c) = dom_list ds
components_for (relation_dom ms es ds) = dom_list ds
components_for d = []

-- There is a name for each of these components, and the names differ.
pub record HasNames (zs : List Text) (d : Dom) : Type 0 where
  pub enough : length (components_for d) ≤ length zs
  pub differ : all_distinct zs ≡ true
