-- Trees whose partial operators are all among those that are known to be total under their conditions.
use Rattle.std.specs.Prelude.{◌≡◌, Bool, true, false, ◌&&◌, ◌||◌, List, [], ◌∷◌, is_some}
use Rattle.ess_semantics.specs.declared.words.Op2.{Op2}
use Rattle.ess_semantics.specs.declared.words.Fun.{Fun}
use Rattle.ess_semantics.specs.Trees.{Step, by_value, to_component, to_field, Op, binary, word, index, application, tuple_literal, function_literal, relation_literal, Ex, Exs, number_ex, truth_ex, name_ex, node_ex, matrix_ex, comp_ex, cell_ex, seen_ex, no_exs, more_exs, Gens, no_gens, over, from, cond, Dom, Doms, bool_dom, int_dom, name_dom, tuple_dom, record_dom, matrix_dom, set_dom, mset_dom, function_dom, relation_dom, partition_dom, no_doms, more_doms}
use Rattle.ess_semantics.specs.Meaning.{is_bool_dom}
use Rattle.ess_guard_laws.specs.IndexDomains.{index_dom}
use Rattle.ess_guard_laws.specs.Conditions.{at_step}
use Rattle.ess_guard_laws.specs.Guard.{connects}

-- ---- indices

-- Whether the form of a matrix term tells its index domain.
abbrev pub has_axis : Ex → Bool
has_axis m = is_some (index_dom m)

-- Whether it does so for each step by a value.
abbrev pub path_has_axes : Ex → List Step → Exs → Bool
path_has_axes m [] is = true
path_has_axes m (by_value ∷ qs) no_exs = true
path_has_axes m (by_value ∷ qs) (more_exs i is) = has_axis m && path_has_axes (at_step by_value m (more_exs i no_exs)) qs is
path_has_axes m (to_component c ∷ qs) is = path_has_axes (at_step (to_component c) m no_exs) qs is
path_has_axes m (to_field a ∷ qs) is = path_has_axes (at_step (to_field a) m no_exs) qs is

-- ---- pairs

-- Whether the term is a pair.
abbrev pub is_pair : Ex → Bool
is_pair (node_ex false tuple_literal (more_exs a (more_exs b no_exs))) = true
is_pair e = false

-- Whether all are: what a literal of a function holds.
abbrev pub are_pairs : Exs → Bool
are_pairs no_exs = true
are_pairs (more_exs e es) = is_pair e && are_pairs es

-- ---- relations

-- Whether the form of a term tells that it is a relation: of a view, of a literal, and of what operators make of a relation.
abbrev pub is_relation : Ex → Bool
is_relation (seen_ex r (relation_dom ms es ds) ns is) = true
is_relation (node_ex false relation_literal es) = true
is_relation (node_ex false (word Fun.ToRelation) (more_exs f no_exs)) = true
is_relation (node_ex false (binary Op2.Union) (more_exs a (more_exs b no_exs))) = is_relation a
is_relation (node_ex false (binary Op2.Intersect) (more_exs a (more_exs b no_exs))) = is_relation a
is_relation (node_ex false (binary Op2.Minus) (more_exs a (more_exs b no_exs))) = is_relation a
is_relation e = false

-- ---- operators

-- The operators that are.
abbrev pub covers : Op → Exs → Bool
covers (index qs) (more_exs m is) = path_has_axes m qs is
covers application (more_exs f es) = is_relation f
covers function_literal es = are_pairs es
covers op es = true

-- Whether the expression is marked as a Boolean.
abbrev pub is_boolean : Ex → Bool
is_boolean (truth_ex b) = true
is_boolean (node_ex b op es) = b
is_boolean (cell_ex b n es) = b
is_boolean (seen_ex r d ns es) = is_bool_dom d
is_boolean e = false

-- Whether the expression asks for no condition: a Boolean, a number, a name, a view.
abbrev pub asks_nothing : Ex → Bool
asks_nothing (node_ex b op es) = b || connects op
asks_nothing (matrix_ex es d) = false
asks_nothing (comp_ex e gs) = false
asks_nothing (cell_ex b n es) = b
asks_nothing e = true

-- Operands of connectives are so.
abbrev pub AskNothing : Bool → Exs → Type 0
AskNothing true (more_exs e es) = (asks_nothing e ≡ true) × AskNothing true es
AskNothing b es = Unit {0}

abbrev mutual
  -- Each operator of the tree is one of these, and operands of connectives and conditions are Booleans.
  pub Covered : Ex → Type 0
  Covered (number_ex n) = Unit {0}
  Covered (truth_ex b) = Unit {0}
  Covered (name_ex a) = Unit {0}
  Covered (node_ex b op es) = (covers op es ≡ true) × AskNothing (connects op) es × CoveredAll es
  Covered (matrix_ex es d) = CoveredAll es × CoveredDom d
  Covered (comp_ex e gs) = Covered e × CoveredGens gs
  Covered (cell_ex b n es) = CoveredAll es
  Covered (seen_ex r d ns es) = Unit {0}

  -- The same of operands.
  pub CoveredAll : Exs → Type 0
  CoveredAll no_exs = Unit {0}
  CoveredAll (more_exs e es) = Covered e × CoveredAll es

  -- The same of generators.
  pub CoveredGens : Gens → Type 0
  CoveredGens no_gens = Unit {0}
  CoveredGens (over p d gs) = CoveredDom d × CoveredGens gs
  CoveredGens (from p e gs) = Covered e × CoveredGens gs
  CoveredGens (cond c gs) = (asks_nothing c ≡ true) × Covered c × CoveredGens gs

  -- The same of a domain.
  pub CoveredDom : Dom → Type 0
  CoveredDom bool_dom = Unit {0}
  CoveredDom (int_dom rs es) = CoveredAll es
  CoveredDom (name_dom a) = Unit {0}
  CoveredDom (tuple_dom ds) = CoveredDoms ds
  CoveredDom (record_dom fs ds) = CoveredDoms ds
  CoveredDom (matrix_dom is d) = CoveredDoms is × CoveredDom d
  CoveredDom (set_dom ms es d) = CoveredAll es × CoveredDom d
  CoveredDom (mset_dom ms es d) = CoveredAll es × CoveredDom d
  CoveredDom (function_dom ms es d c) = CoveredAll es × CoveredDom d × CoveredDom c
  CoveredDom (relation_dom ms es ds) = CoveredAll es × CoveredDoms ds
  CoveredDom (partition_dom ms es d) = CoveredAll es × CoveredDom d

  -- The same of several domains.
  pub CoveredDoms : Doms → Type 0
  CoveredDoms no_doms = Unit {0}
  CoveredDoms (more_doms d ds) = CoveredDom d × CoveredDoms ds
