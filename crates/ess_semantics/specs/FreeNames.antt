-- The free names of a tree: those that it uses and no generator around their use binds. Values of other names change no
-- meaning, also of names that the tree binds.
use Rattle.std.specs.Prelude.{Bool, IsTrue}
use Rattle.ess_semantics.specs.Values.{Text}
use Rattle.ess_semantics.specs.Trees.{Ex, Exs, number_ex, truth_ex, name_ex, node_ex, matrix_ex, comp_ex, cell_ex, seen_ex, no_exs, more_exs, Gens, no_gens, over, from, cond, Dom, Doms, bool_dom, int_dom, name_dom, tuple_dom, record_dom, matrix_dom, set_dom, mset_dom, function_dom, relation_dom, partition_dom, no_doms, more_doms}
use Rattle.ess_semantics.specs.Scoped.{with_names}

-- The names with those that generators bind.
abbrev pub with_bound_names : (Text → Bool) → Gens → Text → Bool
with_bound_names u no_gens = u
with_bound_names u (over p d gs) = with_bound_names (with_names u p) gs
with_bound_names u (from p e gs) = with_bound_names (with_names u p) gs
with_bound_names u (cond e gs) = with_bound_names u gs

abbrev mutual
  -- Each free name of the expression has the property u.
  pub FreeNamesAre : (Text → Bool) → Ex → Type 0
  FreeNamesAre u (number_ex n) = Unit {0}
  FreeNamesAre u (truth_ex b) = Unit {0}
  FreeNamesAre u (name_ex a) = IsTrue (u a)
  FreeNamesAre u (node_ex b op es) = FreeNamesAreExs u es
  FreeNamesAre u (matrix_ex es d) = FreeNamesAreExs u es × FreeNamesAreDom u d
  FreeNamesAre u (comp_ex e gs) = FreeNamesAreGens u gs × FreeNamesAre (with_bound_names u gs) e
  FreeNamesAre u (cell_ex b n es) = FreeNamesAreExs u es
  FreeNamesAre u (seen_ex r d ns es) = FreeNamesAreDom u d × FreeNamesAreExs u es

  -- The same of several expressions.
  pub FreeNamesAreExs : (Text → Bool) → Exs → Type 0
  FreeNamesAreExs u no_exs = Unit {0}
  FreeNamesAreExs u (more_exs e es) = FreeNamesAre u e × FreeNamesAreExs u es

  -- The same of generators.
  pub FreeNamesAreGens : (Text → Bool) → Gens → Type 0
  FreeNamesAreGens u no_gens = Unit {0}
  FreeNamesAreGens u (over p d gs) = FreeNamesAreDom u d × FreeNamesAreGens (with_names u p) gs
  FreeNamesAreGens u (from p e gs) = FreeNamesAre u e × FreeNamesAreGens (with_names u p) gs
  FreeNamesAreGens u (cond e gs) = FreeNamesAre u e × FreeNamesAreGens u gs

  -- The same of a domain. The name of a type isn't used in this sense.
  pub FreeNamesAreDom : (Text → Bool) → Dom → Type 0
  FreeNamesAreDom u bool_dom = Unit {0}
  FreeNamesAreDom u (int_dom rs es) = FreeNamesAreExs u es
  FreeNamesAreDom u (name_dom a) = Unit {0}
  FreeNamesAreDom u (tuple_dom ds) = FreeNamesAreDoms u ds
  FreeNamesAreDom u (record_dom fs ds) = FreeNamesAreDoms u ds
  FreeNamesAreDom u (matrix_dom is d) = FreeNamesAreDoms u is × FreeNamesAreDom u d
  FreeNamesAreDom u (set_dom ms es d) = FreeNamesAreExs u es × FreeNamesAreDom u d
  FreeNamesAreDom u (mset_dom ms es d) = FreeNamesAreExs u es × FreeNamesAreDom u d
  FreeNamesAreDom u (function_dom ms es d c) = FreeNamesAreExs u es × FreeNamesAreDom u d × FreeNamesAreDom u c
  FreeNamesAreDom u (relation_dom ms es ds) = FreeNamesAreExs u es × FreeNamesAreDoms u ds
  FreeNamesAreDom u (partition_dom ms es d) = FreeNamesAreExs u es × FreeNamesAreDom u d

  -- The same of several domains.
  pub FreeNamesAreDoms : (Text → Bool) → Doms → Type 0
  FreeNamesAreDoms u no_doms = Unit {0}
  FreeNamesAreDoms u (more_doms d ds) = FreeNamesAreDom u d × FreeNamesAreDoms u ds
