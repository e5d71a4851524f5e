-- Properties of the domains of all views of a tree.
use Rattle.std.proofs.Common.{Bool, true, false, if◌then◌else◌}
use Rattle.ess_semantics.specs.Values.{Text}
use Rattle.ess_semantics.specs.Order.{same_text}
use Rattle.ess_semantics.specs.Trees.{Ex, Exs, number_ex, truth_ex, name_ex, node_ex, matrix_ex, comp_ex, cell_ex, seen_ex, no_exs, more_exs, Gens, no_gens, over, from, cond, Dom, Doms, bool_dom, int_dom, name_dom, tuple_dom, record_dom, matrix_dom, set_dom, mset_dom, function_dom, relation_dom, partition_dom, no_doms, more_doms}
use Rattle.ess_semantics.specs.Substitution.{substitute, substitute_exs, substitute_gens, substitute_dom, substitute_doms, for_name}

module _ (P : Dom → Type 0) where
  abbrev mutual
    -- P of the domain of each view of the expression. Views inside such a domain aren't looked at.
    pub ViewDomains : Ex → Type 0
    ViewDomains (number_ex n) = Unit {0}
    ViewDomains (truth_ex t) = Unit {0}
    ViewDomains (name_ex a) = Unit {0}
    ViewDomains (node_ex t op es) = ViewDomainsExs es
    ViewDomains (matrix_ex es d) = ViewDomainsExs es × ViewDomainsDom d
    ViewDomains (comp_ex e gs) = ViewDomains e × ViewDomainsGens gs
    ViewDomains (cell_ex t n es) = ViewDomainsExs es
    ViewDomains (seen_ex r d ns es) = P d × ViewDomainsExs es

    -- The same of several expressions.
    pub ViewDomainsExs : Exs → Type 0
    ViewDomainsExs no_exs = Unit {0}
    ViewDomainsExs (more_exs e es) = ViewDomains e × ViewDomainsExs es

    -- The same of generators.
    pub ViewDomainsGens : Gens → Type 0
    ViewDomainsGens no_gens = Unit {0}
    ViewDomainsGens (over p d gs) = ViewDomainsDom d × ViewDomainsGens gs
    ViewDomainsGens (from p e gs) = ViewDomains e × ViewDomainsGens gs
    ViewDomainsGens (cond e gs) = ViewDomains e × ViewDomainsGens gs

    -- The same of the expressions in a domain.
    pub ViewDomainsDom : Dom → Type 0
    ViewDomainsDom bool_dom = Unit {0}
    ViewDomainsDom (int_dom rs es) = ViewDomainsExs es
    ViewDomainsDom (name_dom a) = Unit {0}
    ViewDomainsDom (tuple_dom ds) = ViewDomainsDoms ds
    ViewDomainsDom (record_dom fs ds) = ViewDomainsDoms ds
    ViewDomainsDom (matrix_dom is d) = ViewDomainsDoms is × ViewDomainsDom d
    ViewDomainsDom (set_dom ms es d) = ViewDomainsExs es × ViewDomainsDom d
    ViewDomainsDom (mset_dom ms es d) = ViewDomainsExs es × ViewDomainsDom d
    ViewDomainsDom (function_dom ms es d c) = ViewDomainsExs es × ViewDomainsDom d × ViewDomainsDom c
    ViewDomainsDom (relation_dom ms es ds) = ViewDomainsExs es × ViewDomainsDoms ds
    ViewDomainsDom (partition_dom ms es d) = ViewDomainsExs es × ViewDomainsDom d

    -- The same of several domains.
    pub ViewDomainsDoms : Doms → Type 0
    ViewDomainsDoms no_doms = Unit {0}
    ViewDomainsDoms (more_doms d ds) = ViewDomainsDom d × ViewDomainsDoms ds

-- ---- substitution keeps it

-- w is put for x; the property is kept by that in the domains of views, and it is so of the views of w
module _ (P : Dom → Type 0) (x : Text) (w : Ex) (kept : (d : Dom) → P d → P (substitute_dom (for_name x w) d)) (put : ViewDomains P w) where
  abbrev f : Text → Ex
  f = for_name x w

  name-views : (a : Text) (t : Bool) → ViewDomains P (if t then w else name_ex a)
  name-views a true = put
  name-views a false = tt

  mutual
    -- What is so of the domains of all views stays so with w put for x.
    pub views-put : (e : Ex) → ViewDomains P e → ViewDomains P (substitute f e)
    views-put (number_ex n) h = tt
    views-put (truth_ex t) h = tt
    views-put (name_ex a) h = name-views a (same_text x a)
    views-put (node_ex t op es) h = views-put-exs es h
    views-put (matrix_ex es d) h = (views-put-exs es h.0, views-put-dom d h.1)
    views-put (comp_ex e gs) h = (views-put e h.0, views-put-gens gs h.1)
    views-put (cell_ex t n es) h = views-put-exs es h
    views-put (seen_ex r d ns es) h = (kept d h.0, views-put-exs es h.1)

    views-put-exs : (es : Exs) → ViewDomainsExs P es → ViewDomainsExs P (substitute_exs f es)
    views-put-exs no_exs h = tt
    views-put-exs (more_exs e es) h = (views-put e h.0, views-put-exs es h.1)

    -- The same of generators.
    pub views-put-gens : (gs : Gens) → ViewDomainsGens P gs → ViewDomainsGens P (substitute_gens f gs)
    views-put-gens no_gens h = tt
    views-put-gens (over p d gs) h = (views-put-dom d h.0, views-put-gens gs h.1)
    views-put-gens (from p e gs) h = (views-put e h.0, views-put-gens gs h.1)
    views-put-gens (cond e gs) h = (views-put e h.0, views-put-gens gs h.1)

    views-put-dom : (d : Dom) → ViewDomainsDom P d → ViewDomainsDom P (substitute_dom f d)
    views-put-dom bool_dom h = tt
    views-put-dom (int_dom rs es) h = views-put-exs es h
    views-put-dom (name_dom a) h = tt
    views-put-dom (tuple_dom ds) h = views-put-doms ds h
    views-put-dom (record_dom fs ds) h = views-put-doms ds h
    views-put-dom (matrix_dom is d) h = (views-put-doms is h.0, views-put-dom d h.1)
    views-put-dom (set_dom ms es d) h = (views-put-exs es h.0, views-put-dom d h.1)
    views-put-dom (mset_dom ms es d) h = (views-put-exs es h.0, views-put-dom d h.1)
    views-put-dom (function_dom ms es d c) h = (views-put-exs es h.0, views-put-dom d h.1, views-put-dom c h.2)
    views-put-dom (relation_dom ms es ds) h = (views-put-exs es h.0, views-put-doms ds h.1)
    views-put-dom (partition_dom ms es d) h = (views-put-exs es h.0, views-put-dom d h.1)

    views-put-doms : (ds : Doms) → ViewDomainsDoms P ds → ViewDomainsDoms P (substitute_doms f ds)
    views-put-doms no_doms h = tt
    views-put-doms (more_doms d ds) h = (views-put-dom d h.0, views-put-doms ds h.1)
