-- The free names of a tree are among those that it uses.
use Rattle.std.proofs.Common.{Bool}
use Rattle.ess_semantics.specs.Values.{Text}
use Rattle.ess_semantics.specs.Trees.{Ex, Exs, number_ex, truth_ex, name_ex, node_ex, matrix_ex, comp_ex, cell_ex, seen_ex, no_exs, more_exs, Gens, no_gens, over, from, cond, Dom, Doms, bool_dom, int_dom, name_dom, tuple_dom, record_dom, matrix_dom, set_dom, mset_dom, function_dom, relation_dom, partition_dom, no_doms, more_doms}
use Rattle.ess_semantics.specs.Scoped.{with_names}
use Rattle.ess_semantics.specs.FreeNames.{with_bound_names, FreeNamesAre, FreeNamesAreExs, FreeNamesAreGens, FreeNamesAreDom, FreeNamesAreDoms}
use Rattle.conjure_settled_laws.proofs.UsedNames.{UsesAre, UsesAreExs, UsesAreGens, UsesAreDom, UsesAreDoms}

module _ (v : Text → Bool) where
  mutual
    free : (e : Ex) (u : Text → Bool) → UsesAre v u e → FreeNamesAre u e
    free (number_ex n) u o = tt
    free (truth_ex b) u o = tt
    free (name_ex a) u o = o
    free (node_ex b op es) u o = all-free es u o
    free (matrix_ex es d) u o = (all-free es u o.0, dom-free d u o.1)
    free (comp_ex e gs) u o = (gens-free gs u o.0, free e (with_bound_names u gs) o.1)
    free (cell_ex b n es) u o = all-free es u o
    free (seen_ex r d ns es) u o = (dom-free d u o.0, all-free es u o.1)

    all-free : (es : Exs) (u : Text → Bool) → UsesAreExs v u es → FreeNamesAreExs u es
    all-free no_exs u o = tt
    all-free (more_exs e es) u o = (free e u o.0, all-free es u o.1)

    gens-free : (gs : Gens) (u : Text → Bool) → UsesAreGens v u gs → FreeNamesAreGens u gs
    gens-free no_gens u o = tt
    gens-free (over p d gs) u o = (dom-free d u o.0, gens-free gs (with_names u p) o.1)
    gens-free (from p e gs) u o = (free e u o.0, gens-free gs (with_names u p) o.1)
    gens-free (cond e gs) u o = (free e u o.0, gens-free gs u o.1)

    -- So they are in a domain.
    pub dom-free : (d : Dom) (u : Text → Bool) → UsesAreDom v u d → FreeNamesAreDom u d
    dom-free bool_dom u o = tt
    dom-free (int_dom rs es) u o = all-free es u o
    dom-free (name_dom a) u o = tt
    dom-free (tuple_dom ds) u o = doms-free ds u o
    dom-free (record_dom fs ds) u o = doms-free ds u o
    dom-free (matrix_dom is d) u o = (doms-free is u o.0, dom-free d u o.1)
    dom-free (set_dom ms es d) u o = (all-free es u o.0, dom-free d u o.1)
    dom-free (mset_dom ms es d) u o = (all-free es u o.0, dom-free d u o.1)
    dom-free (function_dom ms es d c) u o = (all-free es u o.0, dom-free d u o.1, dom-free c u o.2)
    dom-free (relation_dom ms es ds) u o = (all-free es u o.0, doms-free ds u o.1)
    dom-free (partition_dom ms es d) u o = (all-free es u o.0, dom-free d u o.1)

    doms-free : (ds : Doms) (u : Text → Bool) → UsesAreDoms v u ds → FreeNamesAreDoms u ds
    doms-free no_doms u o = tt
    doms-free (more_doms d ds) u o = (dom-free d u o.0, doms-free ds u o.1)
