-- What is given in conditions and domains. The names that a tree may use there are those of tables of givens, names that are bound over
-- domains, and names that are bound over what is built of such names alone.
use Rattle.std.specs.Prelude.{Bool, true, ◌&&◌, ◌||◌, not}
use Rattle.std.specs.List.{list_all}
use Rattle.ess_semantics.specs.Values.{Text}
use Rattle.ess_semantics.specs.Trees.{Pat, Pats, name_pat, tuple_pat, no_pats, more_pats, Ex, Exs, number_ex, truth_ex, name_ex, node_ex, matrix_ex, comp_ex, cell_ex, seen_ex, no_exs, more_exs, Gens, no_gens, over, from, cond, Dom, Doms, bool_dom, int_dom, name_dom, tuple_dom, record_dom, matrix_dom, set_dom, mset_dom, function_dom, relation_dom, partition_dom, no_doms, more_doms}
use Rattle.ess_given_laws.specs.PartsHave.{Wanted, PartsHave}

module _ (u : Text → Bool) where
  abbrev mutual
    -- Whether each name that the pattern binds is one of u.
    pub all_bound : Pat → Bool
    all_bound (name_pat a) = u a
    all_bound (tuple_pat ps) = all_bound_by ps

    -- The same of several patterns.
    pub all_bound_by : Pats → Bool
    all_bound_by no_pats = true
    all_bound_by (more_pats p ps) = all_bound p && all_bound_by ps

  abbrev mutual
    -- Whether the pattern binds none of them.
    pub none_bound : Pat → Bool
    none_bound (name_pat a) = not (u a)
    none_bound (tuple_pat ps) = none_bound_by ps

    -- The same of several patterns.
    pub none_bound_by : Pats → Bool
    none_bound_by no_pats = true
    none_bound_by (more_pats p ps) = none_bound p && none_bound_by ps

  abbrev mutual
    -- Whether an expression is fixed: its names, those that it binds and those of tables included, are all of u.
    pub is_fixed : Ex → Bool
    is_fixed (number_ex n) = true
    is_fixed (truth_ex b) = true
    is_fixed (name_ex a) = u a
    is_fixed (node_ex b op es) = are_fixed es
    is_fixed (matrix_ex es d) = are_fixed es && is_fixed_dom d
    is_fixed (comp_ex e gs) = is_fixed e && are_fixed_gens gs
    is_fixed (cell_ex b n es) = u n && are_fixed es
    is_fixed (seen_ex r d ns es) = list_all u ns && (is_fixed_dom d && are_fixed es)

    -- The same of several expressions.
    pub are_fixed : Exs → Bool
    are_fixed no_exs = true
    are_fixed (more_exs e es) = is_fixed e && are_fixed es

    -- The same of generators.
    pub are_fixed_gens : Gens → Bool
    are_fixed_gens no_gens = true
    are_fixed_gens (over p d gs) = all_bound p && (is_fixed_dom d && are_fixed_gens gs)
    are_fixed_gens (from p e gs) = all_bound p && (is_fixed e && are_fixed_gens gs)
    are_fixed_gens (cond e gs) = is_fixed e && are_fixed_gens gs

    -- The same of a domain.
    pub is_fixed_dom : Dom → Bool
    is_fixed_dom bool_dom = true
    is_fixed_dom (int_dom rs es) = are_fixed es
    is_fixed_dom (name_dom a) = true
    is_fixed_dom (tuple_dom ds) = are_fixed_doms ds
    is_fixed_dom (record_dom fs ds) = are_fixed_doms ds
    is_fixed_dom (matrix_dom is d) = are_fixed_doms is && is_fixed_dom d
    is_fixed_dom (set_dom ms es d) = are_fixed es && is_fixed_dom d
    is_fixed_dom (mset_dom ms es d) = are_fixed es && is_fixed_dom d
    is_fixed_dom (function_dom ms es d c) = are_fixed es && (is_fixed_dom d && is_fixed_dom c)
    is_fixed_dom (relation_dom ms es ds) = are_fixed es && are_fixed_doms ds
    is_fixed_dom (partition_dom ms es d) = are_fixed es && is_fixed_dom d

    -- The same of several domains.
    pub are_fixed_doms : Doms → Bool
    are_fixed_doms no_doms = true
    are_fixed_doms (more_doms d ds) = is_fixed_dom d && are_fixed_doms ds

  -- What is wanted of the parts of a tree: each domain in it is fixed, and a name of u that is bound over an expression is bound over a
  -- fixed one.
  abbrev pub given : Wanted
  given = record {
    name = λ a. true;
    table = λ n. true;
    binds = λ p. true;
    draws = λ p e. none_bound p || is_fixed e;
    dom = is_fixed_dom;
  }

  -- The domains of the tree read given tables alone.
  abbrev pub GivenIn : Ex → Type 0
  GivenIn e = PartsHave given e
