-- What is fixed and what is given at a place: a name that is bound over a domain, or over what is fixed there, is fixed behind its
-- generator, any other bound name isn't. So it may be asked of trees that bind one name at several places.
use Rattle.std.specs.Prelude.{Bool, true, ◌&&◌, if◌then◌else◌}
use Rattle.std.specs.List.{list_all}
use Rattle.ess_semantics.specs.Values.{Text}
use Rattle.ess_semantics.specs.Order.{same_text}
use Rattle.ess_semantics.specs.Trees.{Pat, Pats, name_pat, tuple_pat, no_pats, more_pats, Ex, Exs, number_ex, truth_ex, name_ex, node_ex, matrix_ex, comp_ex, cell_ex, seen_ex, no_exs, more_exs, Gens, no_gens, over, from, cond, Dom, Doms, bool_dom, int_dom, name_dom, tuple_dom, record_dom, matrix_dom, set_dom, mset_dom, function_dom, relation_dom, partition_dom, no_doms, more_doms}
use Rattle.ess_given_laws.specs.Given.{is_fixed_dom}

abbrev mutual
  -- The names that are fixed, with those of a pattern: these are where b is true, and aren't where it is false.
  pub bound_as : Bool → Pat → (Text → Bool) → Text → Bool
  bound_as b (name_pat a) s = λ c. if same_text a c then b else s c
  bound_as b (tuple_pat ps) s = all_bound_as b ps s

  -- The same of several patterns.
  pub all_bound_as : Bool → Pats → (Text → Bool) → Text → Bool
  all_bound_as b no_pats s = s
  all_bound_as b (more_pats p ps) s = all_bound_as b ps (bound_as b p s)

-- t has the tables of givens, and each name that the domain of a view binds.
module _ (t : Text → Bool) where
  abbrev mutual
    -- Whether an expression is fixed where s are the fixed names.
    pub is_fixed_in : (Text → Bool) → Ex → Bool
    is_fixed_in s (number_ex n) = true
    is_fixed_in s (truth_ex b) = true
    is_fixed_in s (name_ex a) = s a
    is_fixed_in s (node_ex b op es) = are_fixed_in s es
    is_fixed_in s (matrix_ex es d) = are_fixed_in s es && is_dom_fixed_in s d
    is_fixed_in s (comp_ex e gs) = are_gens_fixed_in s gs && is_fixed_in (fixed_behind s gs) e
    is_fixed_in s (cell_ex b n es) = t n && are_fixed_in s es
    is_fixed_in s (seen_ex r d ns es) = list_all t ns && (is_fixed_dom t d && are_fixed_in s es)

    -- The same of several expressions.
    pub are_fixed_in : (Text → Bool) → Exs → Bool
    are_fixed_in s no_exs = true
    are_fixed_in s (more_exs e es) = is_fixed_in s e && are_fixed_in s es

    -- The same of generators.
    pub are_gens_fixed_in : (Text → Bool) → Gens → Bool
    are_gens_fixed_in s no_gens = true
    are_gens_fixed_in s (over p d gs) = is_dom_fixed_in s d && are_gens_fixed_in (bound_as true p s) gs
    are_gens_fixed_in s (from p e gs) = is_fixed_in s e && are_gens_fixed_in (bound_as (is_fixed_in s e) p s) gs
    are_gens_fixed_in s (cond e gs) = is_fixed_in s e && are_gens_fixed_in s gs

    -- The names that are fixed behind generators.
    pub fixed_behind : (Text → Bool) → Gens → Text → Bool
    fixed_behind s no_gens = s
    fixed_behind s (over p d gs) = fixed_behind (bound_as true p s) gs
    fixed_behind s (from p e gs) = fixed_behind (bound_as (is_fixed_in s e) p s) gs
    fixed_behind s (cond e gs) = fixed_behind s gs

    -- Whether a domain is fixed.
    pub is_dom_fixed_in : (Text → Bool) → Dom → Bool
    is_dom_fixed_in s bool_dom = true
    is_dom_fixed_in s (int_dom rs es) = are_fixed_in s es
    is_dom_fixed_in s (name_dom a) = true
    is_dom_fixed_in s (tuple_dom ds) = are_doms_fixed_in s ds
    is_dom_fixed_in s (record_dom fs ds) = are_doms_fixed_in s ds
    is_dom_fixed_in s (matrix_dom is d) = are_doms_fixed_in s is && is_dom_fixed_in s d
    is_dom_fixed_in s (set_dom ms es d) = are_fixed_in s es && is_dom_fixed_in s d
    is_dom_fixed_in s (mset_dom ms es d) = are_fixed_in s es && is_dom_fixed_in s d
    is_dom_fixed_in s (function_dom ms es d c) = are_fixed_in s es && (is_dom_fixed_in s d && is_dom_fixed_in s c)
    is_dom_fixed_in s (relation_dom ms es ds) = are_fixed_in s es && are_doms_fixed_in s ds
    is_dom_fixed_in s (partition_dom ms es d) = are_fixed_in s es && is_dom_fixed_in s d

    -- The same of several domains.
    pub are_doms_fixed_in : (Text → Bool) → Doms → Bool
    are_doms_fixed_in s no_doms = true
    are_doms_fixed_in s (more_doms d ds) = is_dom_fixed_in s d && are_doms_fixed_in s ds

  abbrev mutual
    -- Whether each domain of the expression is fixed at its place, s being the names that are fixed at that of the expression.
    pub is_given_in : (Text → Bool) → Ex → Bool
    is_given_in s (number_ex n) = true
    is_given_in s (truth_ex b) = true
    is_given_in s (name_ex a) = true
    is_given_in s (node_ex b op es) = are_given_in s es
    is_given_in s (matrix_ex es d) = are_given_in s es && is_dom_fixed_in s d
    is_given_in s (comp_ex e gs) = are_gens_given_in s gs && is_given_in (fixed_behind s gs) e
    is_given_in s (cell_ex b n es) = are_given_in s es
    is_given_in s (seen_ex r d ns es) = is_fixed_dom t d && are_given_in s es

    -- The same of several expressions.
    pub are_given_in : (Text → Bool) → Exs → Bool
    are_given_in s no_exs = true
    are_given_in s (more_exs e es) = is_given_in s e && are_given_in s es

    -- The same of generators.
    pub are_gens_given_in : (Text → Bool) → Gens → Bool
    are_gens_given_in s no_gens = true
    are_gens_given_in s (over p d gs) = is_dom_fixed_in s d && are_gens_given_in (bound_as true p s) gs
    are_gens_given_in s (from p e gs) = is_given_in s e && are_gens_given_in (bound_as (is_fixed_in s e) p s) gs
    are_gens_given_in s (cond e gs) = is_given_in s e && are_gens_given_in s gs
